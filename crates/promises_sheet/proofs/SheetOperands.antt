-- What the rows of the sheet of instructions share: from the pair at TP to the deed that the step leaves, operands and registers by fields and numbers.
-- Assumes nothing.
use Rattle.std.proofs.Common.{Ok}
use Prim.Native.Nat.{ℕ, zero, suc, ◌+◌, ◌-◌, ◌*◌, ◌/◌, ◌%◌, ◌^◌, ◌<◌}
use borrow.Author.Tests.{eq-eqb, ne_eqb}
use lib.Dec.{eqb, ltb, lit<, lit≤, eqb-suc-zero}
use lib.ListN.{set}
use mathlib.Core.Bool.{Bool, true, false, ◌&&◌}
use mathlib.Core.List.{List}
use mathlib.Core.Path.{◌≡◌, refl, sym, ap, ap₂, subst, ◌∙◌}
use native.Mathlib.Decide.{ℕ_discrete}
use native.Mathlib.Nat.{mod-add-mod}
use native.Mathlib.Omega.{arith}
use Rattle.instruction_rules.specs.Reading.{lookup, decode_of}
use Rattle.instruction_rules.specs.Table.{table}
use Rattle.instruction_rules.specs.Pairs.{pair_of}
use Rattle.instruction_rules.specs.declared.Memory.{Memory}
use Rattle.instruction_rules.specs.declared.Shape.{Shape}
use Rattle.instruction_rules.specs.declared.Pair.{Pair}
use Rattle.instruction_rules.proofs.OutcomeLaws.{done, number_is, stores-touchable}
use Rattle.instruction_rules.specs.Execute.{decoded_at, deed_of, deed_from, Executed, execute_of}
use Rattle.instruction_rules.specs.Deeds.{Deed}
use Rattle.instruction_rules.specs.Changes.{places_of, changed}
use Rattle.instruction_rules.specs.Marks.{used_up, past_instruction}
use Rattle.instruction_rules.specs.Operands.{indexed, effective, grown, operand_at, displacement_at, landing, jumped_if}
use Rattle.ground_rules.proofs.ChannelLaws.{put_same, last-channel}
use Rattle.ground_rules.specs.Psw.{with_psw}
use Rattle.ground_rules.specs.Registers.{by_rrr, register_of, tag_of, with_register, base_of}
use Rattle.ground_rules.specs.States.{channel_of, with_channel, block_of, busy_in}
use Rattle.ground_rules.specs.Updates.{renewed}
use Rattle.ground_rules.specs.declared.Channel.{Channel}
use Rattle.ground_rules.specs.declared.State.{State}
use Rattle.ground_rules.proofs.PlaceLaws.{byte-reduced}
use Rattle.ground_rules.specs.Buffers.{Buffers, byte_at, AllBytes}
use Rattle.ground_rules.specs.Places.{all_touchable}
use Rattle.ground_rules.specs.Values.{pointer, onward, word_at}
use Rattle.ground_rules.specs.declared.Pointer.{Pointer}
use Rattle.turn_rules.specs.Step.{Step, done_step, settled_step, instruction_step, step_of}
use Rattle.turn_rules.specs.declared.Kind.{Kind}
use Rattle.ground_rules.proofs.SignLaws.{displaced-by}
use Rattle.ground_rules.specs.Bits.{field_of, with_bit}
use Rattle.ground_rules.specs.Choice.{pick}
use Rattle.ground_rules.specs.Signs.{signed_of, extended, displaced_by}
use Rattle.promises.specs.SheetWords.{bit, word_in, register_values, tags_of, value_in, tag_in, set_value, set_tag}
use Rattle.promises_sheet.specs.SheetOperands.{PairRan, ran_channel, code_byte, base_address, base_tag, added_by, operand_address, grown_by, operand_in, by_byte, by_word, displacement_in, registers_at, past_by, jumped_by, RegistersLeft}
use Rattle.promises.proofs.InstructionLaws.{decoded, turn-executes}
use Rattle.promises.proofs.SheetLaws.{bit-made, bit_kept, byte-alike, word-alike}

-- ---- the pair

abbrev pub pair_with : ℕ → ℕ → ℕ → ℕ → ℕ → ℕ → Pair
pair_with r dd aa w op mm = record { rrr = r; dd = dd; aa = aa; w = w; opcode = op; mm = mm }

pub pair_is : (r dd aa w op mm : ℕ) → r < 8 → dd < 4 → aa < 4 → w < 2 → op < 64 → mm < 4
    → pair_of (r * 32 + dd * 8 + aa * 2 + w) (op * 4 + mm) ≡ pair_with r dd aa w op mm
unfolding pair_of field_of
pair_is r dd aa w op mm h₁ h₂ h₃ h₄ h₅ h₆ =
    let e₁ : (r * 32 + dd * 8 + aa * 2 + w) / 2 ^ 5 % 2 ^ 3 ≡ r = omega arith in
    let e₂ : (r * 32 + dd * 8 + aa * 2 + w) / 2 ^ 3 % 2 ^ 2 ≡ dd = omega arith in
    let e₃ : (r * 32 + dd * 8 + aa * 2 + w) / 2 ^ 1 % 2 ^ 2 ≡ aa = omega arith in
    let e₄ : (r * 32 + dd * 8 + aa * 2 + w) / 2 ^ 0 % 2 ^ 1 ≡ w = omega arith in
    let e₅ : (op * 4 + mm) / 2 ^ 2 % 2 ^ 6 ≡ op = omega arith in
    let e₆ : (op * 4 + mm) / 2 ^ 0 % 2 ^ 2 ≡ mm = omega arith in
    rw (e₁, e₂, e₃, e₄, e₅, e₆)

-- ---- the step

-- what a channel's instruction comes to, and what one of a shape does
abbrev pub executed_in : State → Buffers → Bool → Executed
executed_in s m b = execute_of (channel_of s b) (busy_in (block_of s b)) m

abbrev pub deed_in : State → Buffers → Bool → Shape → Deed
deed_in s m b shape = deed_of shape m (channel_of s b) (busy_in (block_of s b))

module _ {b : Bool} {s : State} {m : Buffers} {lines r dd aa w op mm : ℕ} (x : PairRan b s m lines r dd aa w op mm) (shape : Shape) (small : op < 64)
    (reads : lookup table (pair_with r dd aa w op mm) ≡ Ok shape) where
  -- the pair is decoded to the shape
  shape_is : decoded_at m (channel_of s b).tp ≡ Ok shape
  unfolding decode_of
  shape_is =
      decoded x.executes.there (lit< tt)
      ∙ ap (lookup table) (pair_is r dd aa w op mm x.rrr x.two x.mode x.wide small x.base)
      ∙ reads

  settle : (n : ℕ) (o : Executed) → (settled_step n s m b o.channel o.memory Kind.Instruction).number ≡ n
  unfolding settled_step
  settle zero o = refl
  settle (suc n) o = rw (eqb-suc-zero n)

  own : step_of s m lines ≡ instruction_step s m b
  own = turn-executes b s m lines x.executes.turn x.executes.program

  none : (executed_in s m b).number ≡ 0
  unfolding instruction_step
  none = sym (settle (executed_in s m b).number (executed_in s m b)) ∙ sym (ap (λ (o : Step). o.number) own) ∙ x.done

  -- so the step leaves what that shape does
  leaves : step_of s m lines ≡ done_step s b (deed_in s m b shape).channel (changed m (deed_in s m b shape).change) Kind.Instruction
  unfolding instruction_step settled_step
  leaves =
      own
      ∙ rw (eq-eqb (executed_in s m b).number 0 none)
      (ap (λ (o : Executed). done_step s b o.channel o.memory Kind.Instruction) (done (channel_of s b) (busy_in (block_of s b)) m shape shape_is none))

  pub channel-left : ran_channel b s m lines ≡ (deed_in s m b shape).channel
  channel-left =
      ap (λ (o : Step). channel_of o.state b) leaves
      ∙ last-channel (with_channel s b (deed_in s m b shape).channel) b b
      ∙ put_same s b (deed_in s m b shape).channel

  -- the registers that its deed leaves
  pub registers-left : {k : Channel} {values : List ℕ} {tags : List Bool} → (deed_in s m b shape).channel ≡ k → RegistersLeft (channel_of s b) k values tags
      → RegistersLeft (channel_of s b) (ran_channel b s m lines) values tags
  registers-left {k} {values} {tags} e l =
      subst (λ (k' : Channel). RegistersLeft (channel_of s b) k' values tags) (sym (channel-left ∙ e)) l

  pub memory-left : (step_of s m lines).memory ≡ changed m (deed_in s m b shape).change
  memory-left = ap (λ (o : Step). o.memory) leaves

  -- the bytes that it stores to may be touched
  pub places-touchable : all_touchable m (places_of (deed_in s m b shape).change) ≡ true
  unfolding deed_from
  places-touchable =
      let c = channel_of s b in
      let busy = busy_in (block_of s b) in
      rw shape_is at (stores-touchable c busy m (sym (number_is c busy m) ∙ none))

-- ---- operands

abbrev pub memory_with : ℕ → ℕ → ℕ → Memory
memory_with mm aa w = record { mm = mm; aa = aa; wide = eqb w 1 }

pub base-is : (c : Channel) (mm : ℕ) → mm < 4 → base_of c mm ≡ pointer (base_address c mm) (base_tag c mm)
unfolding base_of
base-is c zero h = refl
base-is c (suc zero) h = refl
base-is c (suc (suc zero)) h = refl
base-is c (suc (suc (suc zero))) h = refl
base-is c (suc (suc (suc (suc k)))) h = absurd (omega arith)

added_is : (m : Buffers) (c : Channel) (mm aa w : ℕ) → aa < 4 → indexed m c (memory_with mm aa w) c.tp ≡ added_by (code_byte m c 2) c.ix aa
unfolding indexed onward
added_is m c mm zero w h = refl
added_is m c mm (suc zero) w h = byte-reduced m c.tp.tag (c.tp.address + 2)
added_is m c mm (suc (suc zero)) w h = refl
added_is m c mm (suc (suc (suc zero))) w h = refl
added_is m c mm (suc (suc (suc (suc k)))) w h = absurd (omega arith)

-- the place of the operand
pub place_is : (m : Buffers) (c : Channel) (n mm aa w : ℕ) → aa < 4 → mm < 4
    → effective m (past_instruction c n) (memory_with mm aa w) c.tp ≡ pointer (operand_address m c mm aa) (base_tag c mm)
unfolding effective indexed onward past_instruction renewed
place_is m c n mm aa w ha hm = ap₂ (λ (p : Pointer) (k : ℕ). onward p k) (base-is (past_instruction c n) mm hm) (added_is m c mm aa w ha)

-- its worth, the address reduced or not
pub operand-is : (m : Buffers) (t : Bool) (a a' w : ℕ) → w < 2 → a % 1048576 ≡ a' % 1048576 → operand_at m (pointer a t) (eqb w 1) ≡ operand_in m t a' w
unfolding operand_at extended
operand-is m t a a' zero h e = ap (extended 8) (byte-alike m t a a' e)
operand-is m t a a' (suc zero) h e = ap (extended 16) (word-alike m t a a' e)
operand-is m t a a' (suc (suc k)) h e = absurd (omega arith)

-- ---- registers

pub value-is : (c : Channel) (r : ℕ) → r < 8 → register_of c r ≡ value_in c r
unfolding register_of by_rrr
value-is c zero h = refl
value-is c (suc zero) h = refl
value-is c (suc (suc zero)) h = refl
value-is c (suc (suc (suc zero))) h = refl
value-is c (suc (suc (suc (suc zero)))) h = refl
value-is c (suc (suc (suc (suc (suc zero))))) h = refl
value-is c (suc (suc (suc (suc (suc (suc zero)))))) h = refl
value-is c (suc (suc (suc (suc (suc (suc (suc zero))))))) h = refl
value-is c (suc (suc (suc (suc (suc (suc (suc (suc k)))))))) h = absurd (omega arith)

pub tag_is : (c : Channel) (r : ℕ) → r < 8 → tag_of c r ≡ tag_in c r
unfolding tag_of by_rrr
tag_is c zero h = refl
tag_is c (suc zero) h = refl
tag_is c (suc (suc zero)) h = refl
tag_is c (suc (suc (suc zero))) h = refl
tag_is c (suc (suc (suc (suc zero)))) h = refl
tag_is c (suc (suc (suc (suc (suc zero))))) h = refl
tag_is c (suc (suc (suc (suc (suc (suc zero)))))) h = refl
tag_is c (suc (suc (suc (suc (suc (suc (suc zero))))))) h = refl
tag_is c (suc (suc (suc (suc (suc (suc (suc (suc k)))))))) h = absurd (omega arith)

-- a register written
written : (c : Channel) (r v : ℕ) (tag : Bool) → r < 8
    → (register_values (with_register c r v tag) ≡ set_value (register_values c) r v) × (tags_of (with_register c r v tag) ≡ set_tag (tags_of c) r tag)
unfolding with_register
written c zero v tag h = (refl, refl)
written c (suc zero) v tag h = (refl, refl)
written c (suc (suc zero)) v tag h = (refl, refl)
written c (suc (suc (suc zero))) v tag h = (refl, refl)
written c (suc (suc (suc (suc zero)))) v tag h = (refl, refl)
written c (suc (suc (suc (suc (suc zero))))) v tag h = (refl, refl)
written c (suc (suc (suc (suc (suc (suc zero)))))) v tag h = (refl, refl)
written c (suc (suc (suc (suc (suc (suc (suc zero))))))) v tag h = (refl, refl)
written c (suc (suc (suc (suc (suc (suc (suc (suc k)))))))) v tag h = absurd (omega arith)

-- ---- what is left

-- XF by the mark
mark-status : (armed : Bool) (psw k : ℕ) → bit (used_up armed psw) k ≡ pick (armed && eqb k 6) 1 (bit psw k)
unfolding used_up with_psw
mark-status false psw k = refl
mark-status true psw k = go (ℕ_discrete k 6)
  where
    go : Dec (k ≡ 6) → bit (with_bit psw 6 true) k ≡ pick (eqb k 6) 1 (bit psw k)
    go (yes e) = rw e (bit-made psw 6 true)
    go (no ne) = rw (ne_eqb k 6 ne) (bit_kept psw 6 k true ne)

module _ (c : Channel) where
  -- past the instruction
  pub past-left : (n : ℕ) → RegistersLeft c (past_instruction c n) (registers_at c (past_by c n) c.ix) (tags_of c)
  unfolding past_instruction renewed onward
  past-left n = record { values = refl; tags = refl; pp = refl; mode = refl; mark = refl; status = mark-status c.armed c.psw }

  -- and IX grown
  pub grown-left : (n mm aa w by : ℕ) → aa < 4
      → RegistersLeft c (grown (past_instruction c n) (memory_with mm aa w) by) (registers_at c (past_by c n) (grown_by c.ix aa by)) (tags_of c)
  unfolding grown past_instruction renewed onward
  grown-left n mm aa w by h = record { values = go aa h; tags = refl; pp = refl; mode = refl; mark = refl; status = mark-status c.armed c.psw }
    where
      go : (aa : ℕ) → aa < 4 → register_values (grown (past_instruction c n) (memory_with mm aa w) by) ≡ registers_at c (past_by c n) (grown_by c.ix aa by)
      go zero h = refl
      go (suc zero) h = refl
      go (suc (suc zero)) h = refl
      go (suc (suc (suc zero))) h = refl
      go (suc (suc (suc (suc k)))) h = absurd (omega arith)

  -- a register written besides
  pub written-left : {k : Channel} {values : List ℕ} {tags : List Bool} (r v : ℕ) (tag : Bool) → r < 8
      → RegistersLeft c k values tags → RegistersLeft c (with_register k r v tag) (set_value values r v) (set_tag tags r tag)
  unfolding with_register
  written-left {k} r v tag h l = record {
    values = (written k r v tag h).0 ∙ ap (λ (vs : List ℕ). set_value vs r v) l.values;
    tags = (written k r v tag h).1 ∙ ap (λ (ts : List Bool). set_tag ts r tag) l.tags;
    pp = l.pp;
    mode = l.mode;
    mark = l.mark;
    status = l.status;
  }

  -- or TP
  pub task-left : {k : Channel} {tp ix : ℕ} (p : Pointer) (a : ℕ) → p.address ≡ a → p.tag ≡ c.tp.tag → RegistersLeft c k (registers_at c tp ix) (tags_of c)
      → RegistersLeft c (renewed k p k.ix k.psw k.mode k.armed) (registers_at c a ix) (tags_of c)
  unfolding renewed
  task-left {k} {tp} {ix} p a e f l = record {
    values = ap (λ (vs : List ℕ). set vs 4 p.address) l.values ∙ ap (λ (n : ℕ). registers_at c n ix) e;
    tags = ap (λ (ts : List Bool). set ts 4 p.tag) l.tags ∙ ap (λ (t : Bool). set (tags_of c) 4 t) f;
    pp = l.pp;
    mode = l.mode;
    mark = l.mark;
    status = l.status;
  }

-- a displacement in bytes, added in 20 bits
module _ (m : Buffers) (t : Bool) (p a a' : ℕ) (e : a % 1048576 ≡ a' % 1048576) where
  byte-displaced : displaced_by p (signed_of 8 (byte_at m t a)) ≡ (p + by_byte (byte_at m t a')) % 1048576
  byte-displaced = displaced-by p 8 (byte_at m t a) (lit≤ tt) ∙ ap (λ (x : ℕ). (p + by_byte x) % 1048576) (byte-alike m t a a' e)

  word-displaced : displaced_by p (signed_of 16 (word_at m t a)) ≡ (p + by_word (word_in m t a')) % 1048576
  word-displaced = ap (λ (x : ℕ). displaced_by p (signed_of 16 x)) (word-alike m t a a' e) ∙ displaced-by p 16 (word_in m t a') (lit≤ tt)

-- where memory is of bytes, a displacement is the byte or word extended as an operand is
pub displacement-extended : (m : Buffers) (c : Channel) (k : ℕ) (two : Bool) → AllBytes m → displacement_in m c k two ≡ operand_in m c.tp.tag (c.tp.address + k) (pick two 1 0)
displacement-extended m c k false all = go (ltb (code_byte m c k) 128)
  where
    go : (b : Bool) → pick b (code_byte m c k) (1048575 - (255 - code_byte m c k)) ≡ pick b (code_byte m c k) (code_byte m c k + 1048320)
    go true = refl
    go false = omega (arith, all c.tp.tag (c.tp.address + k))
displacement-extended m c k true all = go (ltb x 32768)
  where
    x : ℕ
    x = word_in m c.tp.tag (c.tp.address + k)

    go : (b : Bool) → pick b x (1048575 - (65535 - x)) ≡ pick b x (x + 983040)
    go true = refl
    go false = omega (arith, all c.tp.tag (c.tp.address + k), all c.tp.tag (c.tp.address + k + 1))

-- where a jump leads
pub jump-is : (m : Buffers) (c : Channel) (n k : ℕ) (two : Bool)
    → displaced_by (past_by c n) (displacement_at m (onward c.tp k) two) ≡ jumped_by c n (displacement_in m c k two)
unfolding displacement_at onward
jump-is m c n k two = go two
  where
    same : (c.tp.address + k) % 1048576 % 1048576 ≡ (c.tp.address + k) % 1048576
    same = omega arith

    go : (two : Bool) → displaced_by (past_by c n) (displacement_at m (onward c.tp k) two) ≡ jumped_by c n (displacement_in m c k two)
    go false =
        byte-displaced m c.tp.tag (past_by c n) ((c.tp.address + k) % 1048576) (c.tp.address + k) same
        ∙ mod-add-mod (c.tp.address + n) 1048576 (displacement_in m c k false)
    go true =
        word-displaced m c.tp.tag (past_by c n) ((c.tp.address + k) % 1048576) (c.tp.address + k) same
        ∙ mod-add-mod (c.tp.address + n) 1048576 (displacement_in m c k true)

-- the channel after a jump that is taken or not
pub jumped-left : (m : Buffers) (c k : Channel) (n ix at : ℕ) (two taken taken' : Bool) → taken ≡ taken' → k.tp ≡ onward c.tp n
    → RegistersLeft c k (registers_at c (past_by c n) ix) (tags_of c)
    → RegistersLeft c (jumped_if taken m k (onward c.tp at) two) (registers_at c (pick taken' (jumped_by c n (displacement_in m c at two)) (past_by c n)) ix) (tags_of c)
unfolding jumped_if landing onward
jumped-left m c k n ix at two taken taken' e f l =
    task-left c (pick taken (landing m k.tp (onward c.tp at) two) k.tp) (pick taken' (jumped_by c n (displacement_in m c at two)) (past_by c n))
    (rw f (lands taken ∙ ap (λ (b : Bool). pick b (jumped_by c n (displacement_in m c at two)) (past_by c n)) e)) (rw f (keeps taken)) l
  where
    lands : (b : Bool) → (pick b (landing m (onward c.tp n) (onward c.tp at) two) (onward c.tp n)).address ≡ pick b (jumped_by c n (displacement_in m c at two)) (past_by c n)
    lands true = jump-is m c n at two
    lands false = refl

    keeps : (b : Bool) → (pick b (landing m (onward c.tp n) (onward c.tp at) two) (onward c.tp n)).tag ≡ c.tp.tag
    keeps true = refl
    keeps false = refl
