-- Where each part of a state lies, in the numbers of the paper: the tables come to them.
-- Assumes nothing.
use Prim.Native.Nat.{ℕ, ◌+◌}
use lib.ListN.{length, get_or}
use mathlib.Core.List.{List}
use mathlib.Core.Path.{◌≡◌, refl}
use Rattle.ground_rules.specs.Holdings.{held_from}
use Rattle.ground_rules.specs.States.{board_with}
use Rattle.ground_rules.specs.Values.{pointer}
use Rattle.ground_rules.specs.declared.State.{State}
use Rattle.state_rules.specs.Fields.{little_in, flag_in, mode_in}
use Rattle.state_rules.specs.Layout.{match_place, cc_place, mode_place, fields_place, held_place, last_place, first_at, second_from, bytes_of, pointer_in, fields_in, channel_in, board_in, state_in}
use Rattle.state_rules.proofs.LengthLaws.{length-state}

pub pointer-places : (b : List ℕ) (at : ℕ) → pointer_in b at ≡ pointer (little_in 4 b at) (flag_in b (at + 4))
unfolding pointer_in
pointer-places b at = refl

pub fields-places : (b : List ℕ) (at : ℕ)
    → fields_in b at
    ≡ record {
      destinationMoves = flag_in b at;
      sourceMoves = flag_in b (at + 1);
      translates = flag_in b (at + 2);
      synchronised = get_or b (at + 3) 0;
      sourceIsGB = flag_in b (at + 4);
      chained = flag_in b (at + 5);
      singleTransfer = flag_in b (at + 6);
      externalEnd = get_or b (at + 7) 0;
      countEnd = get_or b (at + 8) 0;
      matchEnd = get_or b (at + 9) 0;
    }
unfolding fields_in
fields-places b at = refl

pub channel-places : (b : List ℕ) (at : ℕ)
    → channel_in b at
    ≡ record {
      ga = pointer_in b at;
      gb = pointer_in b (at + 5);
      gc = pointer_in b (at + 10);
      tp = pointer_in b (at + 15);
      pp = little_in 4 b (at + 20);
      bc = little_in 2 b (at + 24);
      ix = little_in 2 b (at + 26);
      cc = little_in 2 b (at + 28);
      mc = little_in 2 b (at + 30);
      psw = get_or b (at + 32) 0;
      mode = mode_in b (at + 33);
      armed = flag_in b (at + 34);
      fields = fields_in b (at + 35);
      held = held_from (little_in 2 b (at + 45));
    }
unfolding channel_in
channel-places b at = refl

pub board-places : (b : List ℕ) → board_in b ≡ board_with (flag_in b 6) (flag_in b 7) (flag_in b 8) (flag_in b 9)
unfolding board_in
board-places b = refl

pub state-places : (b : List ℕ)
    → state_in b
    ≡ record {
      first = channel_in b 10;
      second = channel_in b 57;
      cp = little_in 4 b 1;
      last = flag_in b 5;
      board = board_in b;
    }
unfolding board_in state_in
state-places b = refl

-- the places that have names are those of their parts
pub named-fields : (b : List ℕ) (at : ℕ) → get_or b (at + match_place) 0 ≡ (fields_in b at).matchEnd
unfolding fields_in
named-fields b at = refl

pub named-channel : (b : List ℕ) (at : ℕ)
    → (little_in 2 b (at + cc_place) ≡ (channel_in b at).cc)
    × (mode_in b (at + mode_place) ≡ (channel_in b at).mode)
    × (fields_in b (at + fields_place) ≡ (channel_in b at).fields)
    × (held_from (little_in 2 b (at + held_place)) ≡ (channel_in b at).held)
unfolding channel_in
named-channel b at = (refl, refl, refl, refl)

pub named-state : (b : List ℕ) → (flag_in b last_place ≡ (state_in b).last) × (channel_in b first_at ≡ (state_in b).first) × (channel_in b second_from ≡ (state_in b).second)
unfolding state_in
named-state b = (refl, refl, refl)

-- a state has 104 bytes, and the version is 4
pub state-bytes : (s : State) → (length (bytes_of s) ≡ 104) × (get_or (bytes_of s) 0 0 ≡ 4)
unfolding bytes_of
state-bytes s = (length-state s, refl)
