-- The laws of the fields beside CC: they are those of CC exactly where the test says so, a CC put together of them has them, a register written leaves them so, and a state agrees where its channels do.
-- Assumes nothing.
use Prim.Native.Nat.{ℕ, zero, suc, ◌+◌, ◌*◌, ◌/◌, ◌%◌, ◌^◌, ◌<◌, ◌≤◌}
use borrow.Author.Tests.{eq-eqb, ne_eqb}
use lib.Dec.{eqb, ltb}
use lib.Pow.{shr-shr, high, field, mod-mod-pow, mod-pow-add}
use mathlib.Core.Bool.{Bool, true, false, ◌&&◌}
use mathlib.Core.Path.{◌≡◌, refl, sym, ap, ◌∙◌}
use native.Mathlib.Omega.{arith}
use Rattle.ground_rules.proofs.BitLaws.{field_lt}
use Rattle.ground_rules.proofs.ChoiceLaws.{apart, both_left, both_right}
use Rattle.ground_rules.specs.Bits.{field_of, bit_of}
use Rattle.ground_rules.specs.Choice.{pick}
use Rattle.ground_rules.specs.Cc.{split, bit_worth, joined, without_lock, same_flag, same_fields}
use Rattle.ground_rules.specs.Conditions.{FieldsDisagree}
use Rattle.ground_rules.specs.Registers.{with_register}
use Rattle.ground_rules.specs.States.{board_with, idle_channel, fresh_state, fresh_of, blank_state, channel_of, with_channel, with_last, fields_agree, agree}
use Rattle.ground_rules.specs.declared.Made.{Made}
use Rattle.ground_rules.specs.declared.Board.{Board}
use Rattle.ground_rules.specs.declared.Channel.{Channel}
use Rattle.ground_rules.specs.declared.Fields.{Fields}
use Rattle.ground_rules.specs.declared.State.{State}
use Rattle.ground_rules.proofs.ConditionLaws.{Told, Says, says-and, says-eqb, says-yes, told_and}

-- ---- the test

says-flag : (a b : Bool) → Says (same_flag a b) (a ≡ b)
unfolding same_flag
says-flag true true = record { holds = λ e. refl; fails = λ e. apart e }
says-flag true false = record { holds = λ e. apart (sym e); fails = λ e h. apart h }
says-flag false true = record { holds = λ e. apart (sym e); fails = λ e h. apart (sym h) }
says-flag false false = record { holds = λ e. refl; fails = λ e. apart e }

-- fields given one by one
made : Bool → Bool → Bool → ℕ → Bool → Bool → Bool → ℕ → ℕ → ℕ → Fields
made destinationMoves sourceMoves translates synchronised sourceIsGB chained singleTransfer externalEnd countEnd matchEnd =
    record {
      destinationMoves = destinationMoves;
      sourceMoves = sourceMoves;
      translates = translates;
      synchronised = synchronised;
      sourceIsGB = sourceIsGB;
      chained = chained;
      singleTransfer = singleTransfer;
      externalEnd = externalEnd;
      countEnd = countEnd;
      matchEnd = matchEnd;
    }

-- each field is the same
abbrev Alike : Fields → Fields → Type 0
Alike f g =
    ((((((((((f.destinationMoves ≡ g.destinationMoves)
    × (f.sourceMoves ≡ g.sourceMoves))
    × (f.translates ≡ g.translates))
    × (f.synchronised ≡ g.synchronised))
    × (f.sourceIsGB ≡ g.sourceIsGB))
    × (f.chained ≡ g.chained))
    × (f.singleTransfer ≡ g.singleTransfer))
    × (f.externalEnd ≡ g.externalEnd))
    × (f.countEnd ≡ g.countEnd))
    × (f.matchEnd ≡ g.matchEnd))

alike : (f g : Fields) → Alike f g → f ≡ g
unfolding made
alike f g h = go
  where
    go : made f.destinationMoves f.sourceMoves f.translates f.synchronised f.sourceIsGB f.chained f.singleTransfer f.externalEnd f.countEnd f.matchEnd ≡ made g.destinationMoves g.sourceMoves g.translates g.synchronised g.sourceIsGB g.chained g.singleTransfer g.externalEnd g.countEnd g.matchEnd
    go = rw (h.0.0.0.0.0.0.0.0.0, h.0.0.0.0.0.0.0.0.1, h.0.0.0.0.0.0.0.1, h.0.0.0.0.0.0.1, h.0.0.0.0.0.1, h.0.0.0.0.1, h.0.0.0.1, h.0.0.1, h.0.1, h.1)

pub says_same : (f g : Fields) → Says (same_fields f g) (f ≡ g)
unfolding same_fields
says_same f g = record { holds = λ e. alike f g (each.holds e); fails = λ e h. each.fails e ((((((((((ap (λ (x : Fields). x.destinationMoves) h, ap (λ (x : Fields). x.sourceMoves) h), ap (λ (x : Fields). x.translates) h), ap (λ (x : Fields). x.synchronised) h), ap (λ (x : Fields). x.sourceIsGB) h), ap (λ (x : Fields). x.chained) h), ap (λ (x : Fields). x.singleTransfer) h), ap (λ (x : Fields). x.externalEnd) h), ap (λ (x : Fields). x.countEnd) h), ap (λ (x : Fields). x.matchEnd) h)) }
  where
    each : Says (same_fields f g) (Alike f g)
    each = says-and (says-and (says-and (says-and (says-and (says-and (says-and (says-and (says-and (says-flag f.destinationMoves g.destinationMoves) (says-flag f.sourceMoves g.sourceMoves)) (says-flag f.translates g.translates)) (says-eqb f.synchronised g.synchronised)) (says-flag f.sourceIsGB g.sourceIsGB)) (says-flag f.chained g.chained)) (says-flag f.singleTransfer g.singleTransfer)) (says-eqb f.externalEnd g.externalEnd)) (says-eqb f.countEnd g.countEnd)) (says-eqb f.matchEnd g.matchEnd)

-- ---- CC put together of its fields

-- a flag as a number; what it adds is that number of its bit
flag_number : Bool → ℕ
flag_number on = pick on 1 0

worth-times : (on : Bool) (worth : ℕ) → bit_worth on worth ≡ flag_number on * worth
unfolding bit_worth flag_number
worth-times true worth = omega arith
worth-times false worth = omega arith

flag_small : (on : Bool) → flag_number on ≤ 1
unfolding flag_number
flag_small true = omega arith
flag_small false = omega arith

flag-back : (x at : ℕ) (on : Bool) → x / 2 ^ at % 2 ≡ flag_number on → bit_of x at ≡ on
unfolding bit_of flag_number
flag-back x at true e = rw e
flag-back x at false e = rw e

-- fields that have their widths are those of the CC put together of them
module _ (f : Fields) (syn : f.synchronised < 4) (tx : f.externalEnd < 4) (tbc : f.countEnd < 4) (tmc : f.matchEnd < 8) where
  sum : joined f
      ≡ flag_number f.destinationMoves * 32768
      + flag_number f.sourceMoves * 16384
      + flag_number f.translates * 8192
      + f.synchronised % 4 * 2048
      + flag_number f.sourceIsGB * 1024
      + flag_number f.chained * 256
      + flag_number f.singleTransfer * 128
      + f.externalEnd % 4 * 32
      + f.countEnd % 4 * 8
      + f.matchEnd % 8
  unfolding joined
  sum = rw (worth-times f.destinationMoves 32768, worth-times f.sourceMoves 16384, worth-times f.translates 8192, worth-times f.sourceIsGB 1024, worth-times f.chained 256, worth-times f.singleTransfer 128)

  split-of-joined : split (joined f) ≡ f
  unfolding split field_of
  split-of-joined =
      let a = flag_small f.destinationMoves in
      let b = flag_small f.sourceMoves in
      let c = flag_small f.translates in
      let d = flag_small f.sourceIsGB in
      let g = flag_small f.chained in
      let h = flag_small f.singleTransfer in
      alike (split (joined f)) f (
        (
          (
            (
              (
                (
                  (
                    (
                      (
                        flag-back (joined f) 15 f.destinationMoves (omega (arith, sum)),
                        flag-back (joined f) 14 f.sourceMoves (omega (arith, sum)),
                      ),
                      flag-back (joined f) 13 f.translates (omega (arith, sum)),
                    ),
                    omega (arith, sum),
                  ),
                  flag-back (joined f) 10 f.sourceIsGB (omega (arith, sum)),
                ),
                flag-back (joined f) 8 f.chained (omega (arith, sum)),
              ),
              flag-back (joined f) 7 f.singleTransfer (omega (arith, sum)),
            ),
            omega (arith, sum),
          ),
          omega (arith, sum),
        ),
        omega (arith, sum),
      )

-- a bit's worth is that number of it
pub bit-worth : (n worth : ℕ) → n < 2 → bit_worth (eqb n 1) worth ≡ n * worth
unfolding bit_worth
bit-worth zero worth h = omega arith
bit-worth (suc zero) worth h = omega arith
bit-worth (suc (suc n)) worth h = omega arith

-- without the LOCK bit the digits above it are the same, and those below it
module _ (w : ℕ) where
  above : (k : ℕ) → without_lock w / 2 ^ (10 + k) ≡ w / 2 ^ (10 + k)
  unfolding without_lock
  above k = sym (shr-shr (without_lock w) 10 k) ∙ ap (λ (n : ℕ). n / 2 ^ k) (high (w / 1024) 10 (omega arith)) ∙ shr-shr w 10 k

  below : (r j k : ℕ) → r + (j + k) ≡ 9 → without_lock w / 2 ^ k % 2 ^ j ≡ w / 2 ^ k % 2 ^ j
  unfolding without_lock
  below r j k e = sym (field (without_lock w) j k) ∙ ap (λ (n : ℕ). n / 2 ^ k) (sym (last (without_lock w)) ∙ ap (λ (n : ℕ). n % 2 ^ (j + k)) same ∙ last w) ∙ field w j k
    where
      last : (n : ℕ) → n % 512 % 2 ^ (j + k) ≡ n % 2 ^ (j + k)
      last n = ap (λ (p : ℕ). n % 2 ^ p % 2 ^ (j + k)) (sym e) ∙ mod-mod-pow n r (j + k)

      same : without_lock w % 512 ≡ w % 512
      same = omega arith

  split-without : split (without_lock w) ≡ split w
  unfolding split bit_of field_of
  split-without = rw (above 5, above 4, above 3, above 1, above 0, below 0 1 8 refl, below 1 1 7 refl, below 2 2 5 refl, below 4 2 3 refl, below 6 3 0 refl)

-- the fields of a CC make up that CC without the LOCK bit
regroup : (a b c d e f g h i j m q low : ℕ) → a + (b + (c + (d + (e + m)))) ≡ q + m → f + (g + (h + (i + j))) ≡ low → a + b + c + d + e + f + g + h + i + j ≡ q + low
regroup a b c d e f g h i j m q low x y = omega arith

joined-split : (w : ℕ) → w < 65536 → joined (split w) ≡ without_lock w
unfolding joined split bit_of field_of without_lock
joined-split w h =
    rw (bit-worth (w / 2 ^ 15 % 2) 32768 (omega arith), bit-worth (w / 2 ^ 14 % 2) 16384 (omega arith), bit-worth (w / 2 ^ 13 % 2) 8192 (omega arith), bit-worth (w / 2 ^ 10 % 2) 1024 (omega arith), bit-worth (w / 2 ^ 8 % 2) 256 (omega arith), bit-worth (w / 2 ^ 7 % 2) 128 (omega arith), twice (w / 2 ^ 11), twice (w / 2 ^ 5), twice (w / 2 ^ 3), lowest)
    (regroup _ _ _ _ _ _ _ _ _ _ (w % 1024) (w / 1024 * 1024) (w % 512) upper lower)
  where
    twice : (n : ℕ) → n % 2 ^ 2 % 4 ≡ n % 2 ^ 2
    twice n = omega arith

    lowest : w / 2 ^ 0 % 2 ^ 3 % 8 ≡ w % 8
    lowest = omega arith

    digit : ℕ → ℕ → ℕ → ℕ
    digit k j n = w / 2 ^ k % 2 ^ j * 2 ^ k + n

    upper : digit 15 1 (digit 14 1 (digit 13 1 (digit 11 2 (digit 10 1 (w % 1024))))) ≡ w / 1024 * 1024 + w % 1024
    upper = sym (mod-pow-add w 1 15 ∙ ap (digit 15 1) (mod-pow-add w 1 14 ∙ ap (digit 14 1) (mod-pow-add w 1 13 ∙ ap (digit 13 1) (mod-pow-add w 2 11 ∙ ap (digit 11 2) (mod-pow-add w 1 10))))) ∙ omega (arith, h)

    lower : digit 8 1 (digit 7 1 (digit 5 2 (digit 3 2 (w % 8)))) ≡ w % 512
    lower = sym (mod-pow-add w 1 8 ∙ ap (digit 8 1) (mod-pow-add w 1 7 ∙ ap (digit 7 1) (mod-pow-add w 2 5 ∙ ap (digit 5 2) (mod-pow-add w 2 3))))

-- so fields that have their widths are those of a CC exactly where they make up that CC without the LOCK bit
pub same-by-number : (f : Fields) (w : ℕ) → f.synchronised < 4 → f.externalEnd < 4 → f.countEnd < 4 → f.matchEnd < 8 → w < 65536 → eqb (joined f) (without_lock w) ≡ same_fields f (split w)
same-by-number f w syn tx tbc tmc h = go (same_fields f (split w)) refl
  where
    s : Says (same_fields f (split w)) (f ≡ split w)
    s = says_same f (split w)

    go : (b : Bool) → same_fields f (split w) ≡ b → eqb (joined f) (without_lock w) ≡ b
    go true e = eq-eqb _ _ (ap joined (s.holds e) ∙ joined-split w h)
    go false e = ne_eqb _ _ (λ z. s.fails e (sym (split-of-joined f syn tx tbc tmc) ∙ ap split z ∙ split-without w))

-- and a CC put together of the fields of one has the same fields
pub split-joined : (w : ℕ) → split (joined (split w)) ≡ split w
unfolding split
split-joined w = split-of-joined (split w) (field_lt w 11 2) (field_lt w 5 2) (field_lt w 3 2) (field_lt w 0 3)

-- ---- a channel whose fields are those of CC

-- the test says so
pub agreed : (c : Channel) → fields_agree c ≡ true → c.fields ≡ split c.cc
unfolding fields_agree
agreed c e = (says_same c.fields (split c.cc)).holds e

pub agrees : (c : Channel) → c.fields ≡ split c.cc → fields_agree c ≡ true
unfolding fields_agree
agrees c h = says-yes (says_same c.fields (split c.cc)) h

told-fields : (c : Channel) → Told (fields_agree c) (¬ (c.fields ≡ split c.cc))
unfolding fields_agree
told-fields c =
    let s = says_same c.fields (split c.cc) in
    record { holds = λ e h. h (s.holds e); fails = s.fails }

pub told-agree : (s : State) → Told (agree s) (FieldsDisagree s)
unfolding agree
told-agree s = told_and (told-fields s.first) (told-fields s.second)

-- a channel with the CC and the fields of one that agrees does too
pub same-agrees : (c c' : Channel) → c'.cc ≡ c.cc → c'.fields ≡ c.fields → fields_agree c ≡ true → fields_agree c' ≡ true
unfolding fields_agree
same-agrees c c' e f h = rw (e, f) h

-- a register written leaves fields that are those of CC, where CC itself is written too
pub written-agrees : (c : Channel) (r v : ℕ) (tag : Bool) → fields_agree c ≡ true → fields_agree (with_register c r v tag) ≡ true
unfolding with_register
written-agrees c r v tag h = agrees (with_register c r v tag) (go (eqb r 6))
  where
    go : (b : Bool) → pick b (split (v % 65536)) c.fields ≡ split (pick b (v % 65536) c.cc)
    go true = refl
    go false = agreed c h

-- ---- a state that agrees

joint : {a b : Bool} → a ≡ true → b ≡ true → a && b ≡ true
joint e f = rw (e, f)

pub agree-channel-of : (s : State) (b : Bool) → agree s ≡ true → fields_agree (channel_of s b) ≡ true
unfolding agree channel_of
agree-channel-of s true h = both_right (fields_agree s.first) (fields_agree s.second) h
agree-channel-of s false h = both_left (fields_agree s.first) (fields_agree s.second) h

pub put-agree : (s : State) (b : Bool) (c : Channel) → agree s ≡ true → fields_agree c ≡ true → agree (with_channel s b c) ≡ true
unfolding agree with_channel channel_of
put-agree s b c h k = go b
  where
    go : (b : Bool) → fields_agree (pick b s.first c) && fields_agree (pick b c s.second) ≡ true
    go true = joint (agree-channel-of s false h) k
    go false = joint k (agree-channel-of s true h)

-- noting which channel stepped changes nothing of it
pub last-agree : (s : State) (b : Bool) → agree (with_last s b) ≡ agree s
unfolding agree with_last
last-agree s b = refl

-- a state of which only CP and the board are known agrees: a fresh one, one after reset, one after power-up
pub blank-agree : (cp : ℕ) (b : Board) → agree (blank_state cp b) ≡ true
unfolding agree idle_channel
blank-agree cp b =
    let idle : fields_agree idle_channel ≡ true = agrees idle_channel refl in
    joint idle idle

pub fresh-agree : (cp : ℕ) → agree (fresh_of cp).state ≡ true
unfolding fresh_of fresh_state
fresh-agree cp = go (ltb cp 1048576)
  where
    go : (b : Bool) → agree (pick {A = Made} b (record { number = 0; state = fresh_state cp }) (record { number = 10; state = fresh_state 0 })).state ≡ true
    go true = blank-agree cp (board_with true false false false)
    go false = blank-agree 0 (board_with true false false false)
