-- A channel's block in a state's bytes: where it lies, what was read of it, and what a done step puts.
-- Assumes nothing.
use Prim.Native.Nat.{ℕ, zero, suc, ◌+◌, ◌^◌, ◌<◌, ◌≤◌}
use borrow.Author.Tests.{eq-eqb, ne_eqb}
use lib.Dec.{eqb}
use lib.Seq.{sets}
use mathlib.Core.Bool.{Bool, true, false}
use mathlib.Core.List.{List, [], ◌∷◌}
use mathlib.Core.Path.{◌≡◌, refl, sym, ap, ◌∙◌}
use native.Mathlib.Decide.{ℕ_discrete}
use native.Mathlib.Omega.{arith}
use Rattle.ground_rules.proofs.HoldingLaws.{from-fits}
use Rattle.ground_rules.proofs.FieldLaws.{agreed, agree-channel-of}
use Rattle.ground_rules.specs.Cc.{split}
use Rattle.ground_rules.specs.Choice.{pick}
use Rattle.ground_rules.specs.States.{channel_of, with_channel, with_last, agree, fields_agree}
use Rattle.ground_rules.specs.declared.Channel.{Channel}
use Rattle.ground_rules.specs.declared.State.{State}
use Rattle.transfer_rules.specs.Steps as Steps
use Rattle.state_rules.specs.Conditions.{Bytes, ChannelFits, StateFits}
use Rattle.state_rules.specs.Fields.{little_end, little_in, flag_of}
use Rattle.state_rules.specs.Layout.{front_rows, fields_place, held_place, last_place, pointer_bytes, fields_bytes, held_bytes, channel_bytes, board_bytes, bytes_of, pointer_in, channel_in, state_in, is_state, state_length, first_at, second_from, block_from}
use Rattle.state_rules.specs.Tables.{bytes_by}
use Rattle.state_rules.proofs.BackLaws.{state-back}
use Rattle.state_rules.proofs.ForthLaws.{bytes_back}
use Rattle.state_rules.proofs.HeldLaws.{HeldFit, held_small}

-- ---- a channel's block

pub block_inside : (n : ℕ) (second : Bool) → n ≡ state_length → block_from second + 47 ≤ n
unfolding block_from
block_inside n true e = omega arith
block_inside n false e = omega arith

pub channel-at : (b : List ℕ) (second : Bool) → channel_in b (block_from second) ≡ channel_of (state_in b) second
unfolding block_from channel_of state_in
channel-at b true = refl
channel-at b false = refl

-- ---- what a done step puts

-- a number that was read has its width
little-fits : (width : ℕ) (b : List ℕ) (at : ℕ) → Bytes b → little_in width b at < 256 ^ width
unfolding little_in
little-fits zero b at byte = omega arith
little-fits (suc width) b at byte = omega (arith, byte at, little-fits width b (at + 1) byte)

channel-fits : (b : List ℕ) (at : ℕ) → Bytes b → ChannelFits (channel_in b at)
unfolding channel_in pointer_in
channel-fits b at byte =
    record {
      ga = little-fits 4 b _ byte;
      gb = little-fits 4 b _ byte;
      gc = little-fits 4 b _ byte;
      tp = little-fits 4 b _ byte;
      pp = little-fits 4 b _ byte;
      bc = little-fits 2 b _ byte;
      ix = little-fits 2 b _ byte;
      cc = little-fits 2 b _ byte;
      mc = little-fits 2 b _ byte;
      psw = byte _;
      held = held_small (channel_in b at).held (from-fits (little_in 2 b (at + held_place)));
    }

-- BC of a channel that was read has 16 bits
pub state-count : (b : List ℕ) → Bytes b → (second : Bool) → (channel_of (state_in b) second).bc < 65536
unfolding state_in channel_of
state-count b byte true = (channel-fits b second_from byte).bc
state-count b byte false = (channel-fits b first_at byte).bc

-- each channel that was read holds a byte or nothing
pub state-held : (b : List ℕ) → HeldFit (state_in b)
unfolding state_in channel_in
state-held b = (from-fits (little_in 2 b (first_at + held_place)), from-fits (little_in 2 b (second_from + held_place)))

-- the state after a done step
abbrev pub done : State → Bool → Channel → State
done s second c = with_last (with_channel s second c) second

ordered-fits : (b : List ℕ) → Bytes b → (second : Bool) (c : Channel) → ChannelFits c → StateFits (with_channel (state_in b) second c)
unfolding with_channel state_in
ordered-fits b byte true c h = record { first = channel-fits b first_at byte; second = h; cp = little-fits 4 b _ byte }
ordered-fits b byte false c h = record { first = h; second = channel-fits b second_from byte; cp = little-fits 4 b _ byte }

done-fits : (b : List ℕ) → Bytes b → (second : Bool) (c : Channel) → ChannelFits c → StateFits (done (state_in b) second c)
unfolding with_last with_channel state_in
done-fits b byte second c h = record { first = (ordered-fits b byte second c h).first; second = (ordered-fits b byte second c h).second; cp = little-fits 4 b _ byte }

-- of a state's bytes it changes that of the last channel and one block
done-bytes : (s : State) (second : Bool) (c : Channel) → sets (sets (bytes_of s) last_place (flag_of second ∷ [])) (block_from second) (channel_bytes c) ≡ bytes_of (done s second c)
unfolding with_last with_channel block_from bytes_of board_bytes channel_bytes pointer_bytes fields_bytes held_bytes little_end
done-bytes s true c = refl
done-bytes s false c = refl

-- the same in another order, by its parts
parts-bytes : (s : State) (second : Bool) (c : Channel)
    → sets (sets (sets (sets (bytes_of s) (block_from second) (bytes_by front_rows c)) (block_from second + fields_place) (fields_bytes c.fields)) (block_from second + held_place) (held_bytes c)) last_place (flag_of second ∷ []) ≡ bytes_of (done s second c)
unfolding with_last with_channel block_from bytes_of board_bytes channel_bytes pointer_bytes fields_bytes held_bytes little_end
parts-bytes s true c = refl
parts-bytes s false c = refl

-- where the fields of CC stay, what stands before them and behind them is enough
kept-bytes : (s : State) (second : Bool) (c : Channel) → c.fields ≡ (channel_of s second).fields
    → sets (sets (sets (bytes_of s) (block_from second) (bytes_by front_rows c)) (block_from second + held_place) (held_bytes c)) last_place (flag_of second ∷ []) ≡ bytes_of (done s second c)
unfolding with_last with_channel channel_of block_from bytes_of board_bytes channel_bytes pointer_bytes fields_bytes held_bytes little_end
kept-bytes s true c e = rw e
kept-bytes s false c e = rw e

-- an attention changes one block
order-bytes : (s : State) (second : Bool) (c : Channel) → sets (bytes_of s) (block_from second) (channel_bytes c) ≡ bytes_of (with_channel s second c)
unfolding with_channel block_from bytes_of board_bytes channel_bytes pointer_bytes fields_bytes held_bytes little_end
order-bytes s true c = refl
order-bytes s false c = refl

-- so bytes that were put are those of the state that is meant, and stand for it
module _ (b : List ℕ) (byte : Bytes b) (h : is_state b ≡ true) (second : Bool) (c : Channel) (fits : ChannelFits c) where
  put-back-as : (f : List ℕ → List ℕ) (t : State) → StateFits t → f (bytes_of (state_in b)) ≡ bytes_of t → (x : List ℕ) → x ≡ f b → (x ≡ bytes_of t) × (state_in x ≡ t)
  put-back-as f t fit puts x e =
      let is : x ≡ bytes_of t = e ∙ ap f (sym (bytes_back b byte h)) ∙ puts in
      (is, ap state_in is ∙ state-back t fit)

  pub put-done : (x : List ℕ) → x ≡ sets (sets b last_place (flag_of second ∷ [])) (block_from second) (channel_bytes c)
      → (x ≡ bytes_of (done (state_in b) second c)) × (state_in x ≡ done (state_in b) second c)
  put-done =
      put-back-as (λ l. sets (sets l last_place (flag_of second ∷ [])) (block_from second) (channel_bytes c)) (done (state_in b) second c) (done-fits b byte second c fits)
      (done-bytes (state_in b) second c)

  -- where a channel's fields agree with its CC before and after, they are put where CC changed
  pub put-turned : agree (state_in b) ≡ true → fields_agree c ≡ true → (x : List ℕ)
      → x ≡ sets (sets (pick (eqb (channel_in b (block_from second)).cc c.cc) (sets b (block_from second) (bytes_by front_rows c)) (sets (sets b (block_from second) (bytes_by front_rows c)) (block_from second + fields_place) (fields_bytes (split c.cc)))) (block_from second + held_place) (held_bytes c)) last_place (flag_of second ∷ [])
      → (x ≡ bytes_of (done (state_in b) second c)) × (state_in x ≡ done (state_in b) second c)
  unfolding channel_in
  put-turned before after x e = go (ℕ_discrete (channel_in b (block_from second)).cc c.cc)
    where
      same-fields : (channel_in b (block_from second)).cc ≡ c.cc → c.fields ≡ (channel_of (state_in b) second).fields
      same-fields same =
          agreed c after ∙ ap split (sym same) ∙ ap (λ (d : Channel). split d.cc) (channel-at b second)
          ∙ sym (agreed (channel_of (state_in b) second) (agree-channel-of (state_in b) second before))

      go : Dec ((channel_in b (block_from second)).cc ≡ c.cc) → (x ≡ bytes_of (done (state_in b) second c)) × (state_in x ≡ done (state_in b) second c)
      go (yes same) =
          put-back-as (λ l. sets (sets (sets l (block_from second) (bytes_by front_rows c)) (block_from second + held_place) (held_bytes c)) last_place (flag_of second ∷ []))
          (done (state_in b) second c) (done-fits b byte second c fits) (kept-bytes (state_in b) second c (same-fields same)) x (e ∙ rw (eq-eqb _ _ same))
      go (no ne) =
          put-back-as (λ l. sets (sets (sets (sets l (block_from second) (bytes_by front_rows c)) (block_from second + fields_place) (fields_bytes c.fields)) (block_from second + held_place) (held_bytes c)) last_place (flag_of second ∷ []))
          (done (state_in b) second c) (done-fits b byte second c fits) (parts-bytes (state_in b) second c) x (e ∙ rw (ne_eqb _ _ ne, agreed c after))

  pub put-ordered : (x : List ℕ) → x ≡ sets b (block_from second) (channel_bytes c)
      → (x ≡ bytes_of (with_channel (state_in b) second c)) × (state_in x ≡ with_channel (state_in b) second c)
  put-ordered =
      put-back-as (λ l. sets l (block_from second) (channel_bytes c)) (with_channel (state_in b) second c) (ordered-fits b byte second c fits) (order-bytes (state_in b) second c)
