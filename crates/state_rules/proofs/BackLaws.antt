-- A state to bytes and back: every state whose registers have their widths comes back whole, and the bytes of one that agrees and holds bytes or nothing are a state.
-- Assumes nothing.
use borrow.Author.Tests.{eq-eqb}
use lib.ListN.{length}
use mathlib.Core.Bool.{true, ◌&&◌}
use mathlib.Core.List.{List, [], append-nil}
use mathlib.Core.Path.{◌≡◌, refl, sym, ap, ap₂, subst, ◌∙◌}
use Prim.Native.Nat.{ℕ}
use Rattle.ground_rules.proofs.BitLaws.{field_lt}
use Rattle.ground_rules.proofs.ChoiceLaws.{both_left, both_right}
use Rattle.ground_rules.proofs.FieldLaws.{agreed}
use Rattle.ground_rules.proofs.HoldingLaws.{HeldFits}
use Rattle.ground_rules.specs.Cc.{split}
use Rattle.ground_rules.specs.States.{fields_agree, agree}
use Rattle.ground_rules.specs.declared.Channel.{Channel}
use Rattle.ground_rules.specs.declared.Fields.{Fields}
use Rattle.ground_rules.specs.declared.State.{State}
use Rattle.state_rules.specs.Conditions.{ChannelFits, StateFits}
use Rattle.state_rules.specs.Layout.{state_rows, state_from_parts, bytes_of, state_in, is_state, state_length}
use Rattle.state_rules.specs.Tables.{are_by}
use Rattle.state_rules.proofs.FormLaws.{code-lawful, flag-lawful, mode-lawful, pointer-lawful, fields-lawful, channel-lawful, board-lawful, state-laws}
use Rattle.state_rules.proofs.HeldLaws.{HeldFit, small-held}
use Rattle.state_rules.proofs.LengthLaws.{length-state}
use Rattle.state_rules.proofs.TableLaws.{back_by, ranges-by}

-- ---- a channel

-- its registers have their widths, and what it holds is a byte
channel-fits : (c : Channel) → ChannelFits c → channel-lawful.Fits c
unfolding code-lawful flag-lawful mode-lawful pointer-lawful fields-lawful channel-lawful
channel-fits c h = ((h.ga, (tt, tt)), ((h.gb, (tt, tt)), ((h.gc, (tt, tt)), ((h.tp, (tt, tt)), (h.pp, (h.bc, (h.ix, (h.cc, (h.mc, (tt, (tt, (tt, ((tt, (tt, (tt, (tt, (tt, (tt, (tt, (tt, (tt, (tt, tt)))))))))), (small-held c.held h.held, tt))))))))))))))

-- the fields of a CC are in range
fields-range : (w : ℕ) → fields-lawful.Ranges (split w)
unfolding code-lawful flag-lawful fields-lawful split
fields-range w = (tt, (tt, (tt, (field_lt w 11 2, (tt, (tt, (tt, (field_lt w 5 2, (field_lt w 3 2, (field_lt w 0 3, tt))))))))))

-- and so is a channel whose fields are those of its CC
channel-ranges : (c : Channel) → fields_agree c ≡ true → HeldFits c.held → channel-lawful.Ranges c
unfolding flag-lawful mode-lawful pointer-lawful channel-lawful
channel-ranges c h k =
    let fields = subst (λ (f : Fields). fields-lawful.Ranges f) (sym (agreed c h)) (fields-range c.cc) in
    ((tt, (tt, tt)), ((tt, (tt, tt)), ((tt, (tt, tt)), ((tt, (tt, tt)), (tt, (tt, (tt, (tt, (tt, (tt, (tt, (tt, (fields, (k, tt))))))))))))))

-- ---- the state

-- every state whose registers have their widths comes back whole
pub state-back : (s : State) → StateFits s → state_in (bytes_of s) ≡ s
unfolding state_in bytes_of flag-lawful board-lawful
state-back s h =
    ap state_in (sym (append-nil (bytes_of s)))
    ∙ back_by state_rows state-laws state_from_parts s (tt, (h.cp, (tt, ((tt, (tt, (tt, (tt, tt)))), (channel-fits s.first h.first, (channel-fits s.second h.second, tt)))))) [] [] 0 0 refl

-- the bytes of a state that agrees and holds bytes or nothing are a state
pub bytes-are : (s : State) → agree s ≡ true → HeldFit s → is_state (bytes_of s) ≡ true
unfolding agree is_state bytes_of flag-lawful board-lawful
bytes-are s h k =
    let one = channel-ranges s.first (both_left (fields_agree s.first) (fields_agree s.second) h) k.0 in
    let two = channel-ranges s.second (both_right (fields_agree s.first) (fields_agree s.second) h) k.1 in
    ap₂ ◌&&◌ (eq-eqb (length (bytes_of s)) state_length (length-state s))
    (ap (λ (b : List ℕ). are_by state_rows b 0 0) (sym (append-nil (bytes_of s)))
    ∙ ranges-by state_rows state-laws s (tt, (tt, (tt, ((tt, (tt, (tt, (tt, tt)))), (one, (two, tt)))))) [] [] 0 0 refl)
