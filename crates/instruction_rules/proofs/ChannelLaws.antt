-- What an instruction leaves of a channel: that a sound one stays sound, that the fields stay those of CC, PP, the mode, and how the mark of XFER is used up.
-- Assumes nothing.
use Rattle.std.proofs.Common.{None, Ok, Option, Some}
use Prim.Native.Nat.{ℕ, ◌+◌, ◌-◌, ◌%◌}
use borrow.Author.Tests.{eqb-false, lt-ltb}
use lib.Dec.{ltb, eqb, lit<}
use lib.IntN.{ℤ, pos, negsuc}
use mathlib.Core.Bool.{Bool, true, false, not, ◌&&◌, ◌||◌}
use mathlib.Core.Path.{◌≡◌, refl, sym, ap, ◌∙◌}
use native.Mathlib.Nat.{mod-lt}
use Rattle.instruction_rules.specs.Lengths.{offset_length, length_of}
use Rattle.instruction_rules.specs.declared.Memory.{Memory}
use Rattle.instruction_rules.specs.declared.Shape.{Shape}
use Rattle.instruction_rules.specs.declared.Shape.TheVariants.{Nop, Sintr, Xfer, Wid, Hlt, Lpdi, RegisterImmediate, Register, JumpRegister, RegisterMemory, MemoryRegister, MemoryImmediate, MemoryAlone, JumpMemory, Lpd, MovpLoad, MovpStore, MovMemory, Tsl, Call, JumpMasked, JumpBit, Bit}
use Rattle.instruction_rules.specs.declared.Work.{Work}
use Rattle.ground_rules.proofs.FieldLaws.{same-agrees, written-agrees}
use Rattle.ground_rules.specs.Psw.{program_running, interrupt_control, transferring, with_psw}
use Rattle.ground_rules.specs.Registers.{tag_of, with_register, moved, worked}
use Rattle.ground_rules.specs.States.{sound_channel, fields_agree}
use Rattle.ground_rules.specs.Updates.{with_control, renewed, stopped_psw, halted}
use Rattle.ground_rules.specs.declared.Channel.{Channel}
use Rattle.ground_rules.specs.declared.Mode.TheVariants.{Idle}
use Rattle.ground_rules.proofs.StoreLaws.{system-touchable, read_same}
use Rattle.ground_rules.specs.Buffers.{Buffers, touchable_at, byte_at}
use Rattle.ground_rules.specs.Places.{span, all_pass}
use Rattle.ground_rules.specs.Values.{pointer, onward}
use Rattle.ground_rules.specs.declared.Pointer.{Pointer}
use Rattle.ground_rules.proofs.BitLaws.{bit-same, bit-other}
use Rattle.ground_rules.proofs.ChoiceLaws.{apart, both_left, both_right}
use Rattle.ground_rules.specs.Bits.{with_bit}
use Rattle.ground_rules.specs.Choice.{pick}
use Rattle.ground_rules.specs.Signs.{displaced_by}
use Rattle.instruction_rules.specs.Changes.{places_of, changed}
use Rattle.instruction_rules.specs.Control.{with_status, nop_deed, sintr_deed, xfer_deed, wid_deed, hlt_deed}
use Rattle.instruction_rules.specs.JumpForms.{jump_register_deed, jump_memory_deed, jump_byte_deed, jump_masked_deed, jump_bit_deed, tsl_deed, call_deed}
use Rattle.instruction_rules.specs.MemoryForms.{memory_work_deed, memory_register_deed, memory_immediate_deed, memory_alone_deed, movp_store_deed, bit_deed, mov_operand_deed, mov_second_deed, second_at, mov_memory_deed}
use Rattle.instruction_rules.specs.Marks.{used_up, past_instruction, mark_set}
use Rattle.instruction_rules.specs.Operands.{after_pair, byte_here, further, size_of, effective, grown, displacement_at, landing, jumped_if, is_move}
use Rattle.instruction_rules.specs.RegisterForms.{register_written, register_immediate_deed, register_deed, register_memory_deed, lpdi_deed, lpd_deed, movp_load_deed}
use Rattle.instruction_rules.specs.Execute.{decoded_at, performed, deed_of, deed_from, execute_of}
use Rattle.instruction_rules.specs.Kept.{Halts, Arms}
use Rattle.instruction_rules.proofs.OutcomeLaws.{number_is, stores-touchable, by_number, done}

-- ---- soundness

-- a pointer is of 20 bits
abbrev Small : Pointer → Type 0
Small p = ltb p.address 1048576 ≡ true

reduced-small : (a : ℕ) → ltb (a % 1048576) 1048576 ≡ true
reduced-small a = lt-ltb (a % 1048576) 1048576 (mod-lt a (lit< tt))

onward-small : (p : Pointer) (n : ℕ) → Small (onward p n)
unfolding onward
onward-small p n = reduced-small (p.address + n)

displaced-small : (a : ℕ) (d : ℤ) → ltb (displaced_by a d) 1048576 ≡ true
unfolding displaced_by
displaced-small a (pos n) = reduced-small (a + n)
displaced-small a (negsuc n) = reduced-small (a + (1048575 - n % 1048576))

pick_small : (b : Bool) (v : ℕ) (tag : Bool) (p : Pointer) → Small p → Small (pick b (pointer (v % 1048576) tag) p)
pick_small true v tag p h = reduced-small v
pick_small false v tag p h = h

-- a channel whose pointers are of 20 bits where another's are, and which has its PP
sound-by : (c d : Channel) → d.pp ≡ c.pp → (Small c.ga → Small d.ga) → (Small c.gb → Small d.gb) → (Small c.gc → Small d.gc) → (Small c.tp → Small d.tp)
    → sound_channel c ≡ true → sound_channel d ≡ true
unfolding sound_channel
sound-by c d pp f g k l h =
    let x = ltb c.ga.address 1048576 in
    let y = ltb c.gb.address 1048576 in
    let z = ltb c.gc.address 1048576 in
    let w = ltb c.tp.address 1048576 in
    let h₄ : x && y && z && w ≡ true = both_left (x && y && z && w) (ltb c.pp 1048576) h in
    let h₃ : x && y && z ≡ true = both_left (x && y && z) w h₄ in
    let h₂ : x && y ≡ true = both_left (x && y) z h₃ in
    rw (f (both_left x y h₂), g (both_right x y h₂), k (both_right (x && y) z h₃), l (both_right (x && y && z) w h₄), pp, both_right (x && y && z && w) (ltb c.pp 1048576) h)

-- ---- what only writes registers, grows IX or jumps

record Steady (c d : Channel) : Type 0 where
  pp : d.pp ≡ c.pp
  mode : d.mode ≡ c.mode
  armed : d.armed ≡ c.armed
  psw : d.psw ≡ c.psw
  held : d.held ≡ c.held
  sound : sound_channel c ≡ true → sound_channel d ≡ true
  agree : fields_agree c ≡ true → fields_agree d ≡ true

same : (c : Channel) → Steady c c
same c = record { pp = refl; mode = refl; armed = refl; psw = refl; held = refl; sound = λ h. h; agree = λ h. h }

then : {c d e : Channel} → Steady c d → Steady d e → Steady c e
then p q = record {
  pp = q.pp ∙ p.pp;
  mode = q.mode ∙ p.mode;
  armed = q.armed ∙ p.armed;
  psw = q.psw ∙ p.psw;
  held = q.held ∙ p.held;
  sound = λ h. q.sound (p.sound h);
  agree = λ h. q.agree (p.agree h);
}

chosen : {c : Channel} (b : Bool) (d e : Channel) → Steady c d → Steady c e → Steady c (pick b d e)
chosen true d e p q = p
chosen false d e p q = q

registered : (c : Channel) (r v : ℕ) (tag : Bool) → Steady c (with_register c r v tag)
unfolding with_register
registered c r v tag = record {
  pp = refl;
  mode = refl;
  armed = refl;
  psw = refl;
  held = refl;
  sound = sound-by c (with_register c r v tag) refl (pick_small (eqb r 0) v tag c.ga) (pick_small (eqb r 1) v tag c.gb) (pick_small (eqb r 2) v tag c.gc) (pick_small (eqb r 4) v tag c.tp);
  agree = written-agrees c r v tag;
}

placed : (c : Channel) (tp : Pointer) (ix : ℕ) → (Small c.tp → Small tp) → Steady c (renewed c tp ix c.psw c.mode c.armed)
unfolding renewed
placed c tp ix h = record {
  pp = refl;
  mode = refl;
  armed = refl;
  psw = refl;
  held = refl;
  sound = sound-by c (renewed c tp ix c.psw c.mode c.armed) refl (λ s. s) (λ s. s) (λ s. s) h;
  agree = same-agrees c (renewed c tp ix c.psw c.mode c.armed) refl refl;
}

grows : (c : Channel) (o : Memory) (by : ℕ) → Steady c (grown c o by)
unfolding grown
grows c o by = placed c c.tp (pick (eqb o.aa 3) ((c.ix + by) % 65536) c.ix) (λ s. s)

goes_on : (c : Channel) (n : ℕ) → Steady c (further c n)
unfolding further
goes_on c n = placed c (onward c.tp n) c.ix (λ s. onward-small c.tp n)

landing-small : (taken : Bool) (m : Buffers) (tp p : Pointer) (two : Bool) → Small tp → Small (pick taken (landing m tp p two) tp)
unfolding landing
landing-small true m tp p two s = displaced-small tp.address (displacement_at m p two)
landing-small false m tp p two s = s

jumps-if : (taken : Bool) (m : Buffers) (c : Channel) (p : Pointer) (two : Bool) → Steady c (jumped_if taken m c p two)
unfolding jumped_if
jumps-if taken m c p two = placed c (pick taken (landing m c.tp p two) c.tp) c.ix (landing-small taken m c.tp p two)

writes : (work : Work) (c : Channel) (r v : ℕ) → Steady c (register_written work c r v)
unfolding register_written
writes work c r v = chosen (is_move work) (moved c r v) (worked c r v) (registered c r v true) (registered c r v (tag_of c r))

-- ---- each shape

-- what an instruction of some shape makes of the channel with TP past it and the mark used up; `armed` is whether it was marked
record After (s : Shape) (armed : Bool) (c d : Channel) : Type 0 where
  halts : Bool
  halts-is : halts ≡ true → s ≡ Hlt
  arms : Bool
  arms-is : arms ≡ true → s ≡ Xfer
  pp : d.pp ≡ c.pp
  mode : d.mode ≡ pick halts Idle c.mode
  mark : d.armed ≡ pick arms (not armed) false
  xf : transferring d.psw ≡ pick halts false (transferring c.psw)
  held : c.held ≡ None → d.held ≡ None
  sound : sound_channel c ≡ true → sound_channel d ≡ true
  agree : fields_agree c ≡ true → fields_agree d ≡ true

steady : {s : Shape} {armed : Bool} {c d : Channel} → c.armed ≡ false → Steady c d → After s armed c d
steady e p = record {
  halts = false;
  halts-is = λ h. apart (sym h);
  arms = false;
  arms-is = λ h. apart (sym h);
  pp = p.pp;
  mode = p.mode;
  mark = p.armed ∙ e;
  xf = ap transferring p.psw;
  held = λ h. p.held ∙ h;
  sound = p.sound;
  agree = p.agree;
}

-- another PSW, with XF as it was
statused : {s : Shape} {armed : Bool} (c : Channel) (psw : ℕ) → c.armed ≡ false → transferring psw ≡ transferring c.psw → After s armed c (with_status c psw)
unfolding with_status renewed
statused c psw e x = record {
  halts = false;
  halts-is = λ h. apart (sym h);
  arms = false;
  arms-is = λ h. apart (sym h);
  pp = refl;
  mode = refl;
  mark = e;
  xf = x;
  held = λ h. h;
  sound = sound-by c (with_status c psw) refl (λ s. s) (λ s. s) (λ s. s) (λ s. s);
  agree = same-agrees c (with_status c psw) refl refl;
}

-- a PSW with another bit than XF changed
pub xf-other : (psw at : ℕ) (on : Bool) → (6 ≡ at → ⊥) → transferring (with_psw psw at on) ≡ transferring psw
unfolding with_psw
xf-other psw at on ne = go (ltb at 8)
  where
    go : (b : Bool) → transferring (pick b (with_bit psw at on) psw) ≡ transferring psw
    go true = bit-other psw at 6 on ne
    go false = refl

sintr-xf : (psw : ℕ) (b : Bool) → transferring (pick b (with_psw psw 4 true) psw) ≡ transferring psw
sintr-xf psw true = xf-other psw 4 true (eqb-false 6 4 refl)
sintr-xf psw false = refl

armed-xfer : (c : Channel) (armed : Bool) → After Xfer armed c (xfer_deed c armed).channel
unfolding xfer_deed mark_set renewed
armed-xfer c armed = record {
  halts = false;
  halts-is = λ h. apart (sym h);
  arms = true;
  arms-is = λ h. refl;
  pp = refl;
  mode = refl;
  mark = refl;
  xf = refl;
  held = λ h. h;
  sound = sound-by c (xfer_deed c armed).channel refl (λ s. s) (λ s. s) (λ s. s) (λ s. s);
  agree = same-agrees c (xfer_deed c armed).channel refl refl;
}

hlt-halts : (c : Channel) (busy : ℕ) (armed : Bool) → After Hlt armed c (hlt_deed c busy).channel
unfolding hlt_deed halted with_control stopped_psw with_psw
hlt-halts c busy armed = record {
  halts = true;
  halts-is = λ h. refl;
  arms = false;
  arms-is = λ h. apart (sym h);
  pp = refl;
  mode = refl;
  mark = refl;
  xf = bit-same (with_bit c.psw 2 false) 6 false;
  held = λ h. refl;
  sound = sound-by c (hlt_deed c busy).channel refl (λ s. s) (λ s. s) (λ s. s) (λ s. s);
  agree = same-agrees c (hlt_deed c busy).channel refl refl;
}

module _ (m : Buffers) (c : Channel) (tp : Pointer) where
  tsl-steady : (o : Memory) → Steady c (tsl_deed m c tp o).channel
  unfolding tsl_deed
  tsl-steady o = go (eqb (byte_here m (effective m c o tp)) 0) refl
    where
      go : (b : Bool) → eqb (byte_here m (effective m c o tp)) 0 ≡ b → Steady c (tsl_deed m c tp o).channel
      go true e = rw e (grows c o 1)
      go false e = rw e (then (grows c o 1) (jumps-if true m (grown c o 1) (onward (after_pair tp o) 1) false))

  second-steady : (o : Memory) (q : Option Memory) → Steady c (mov_second_deed m c tp o q).channel
  unfolding mov_second_deed mov_operand_deed
  second-steady o (Some q) =
      then (grows c o (size_of o.wide))
      (then (grows (grown c o (size_of o.wide)) q (size_of q.wide)) (goes_on (grown (grown c o (size_of o.wide)) q (size_of q.wide)) (offset_length q)))
  second-steady o None = same c

after : (s : Shape) (m : Buffers) (c : Channel) (tp : Pointer) (armed : Bool) (busy : ℕ) → c.armed ≡ false → After s armed c (performed s m c tp armed busy).channel
unfolding performed nop_deed sintr_deed wid_deed lpdi_deed register_immediate_deed register_deed jump_register_deed register_memory_deed memory_register_deed memory_immediate_deed memory_work_deed memory_alone_deed jump_memory_deed lpd_deed movp_load_deed movp_store_deed mov_memory_deed call_deed jump_masked_deed jump_bit_deed jump_byte_deed bit_deed
after Nop m c tp armed busy e = steady e (same c)
after Sintr m c tp armed busy e = statused c (pick (interrupt_control c.psw) (with_psw c.psw 4 true) c.psw) e (sintr-xf c.psw (interrupt_control c.psw))
after Xfer m c tp armed busy e = armed-xfer c armed
after (Wid source destination) m c tp armed busy e =
    statused c (with_psw (with_psw c.psw 1 source) 0 destination) e
    (xf-other (with_psw c.psw 1 source) 0 destination (eqb-false 6 0 refl) ∙ xf-other c.psw 1 source (eqb-false 6 1 refl))
after Hlt m c tp armed busy e = hlt-halts c busy armed
after (Lpdi ppp) m c tp armed busy e = steady e (registered c ppp _ false)
after (RegisterImmediate work rrr wide) m c tp armed busy e = steady e (writes work c rrr _)
after (Register single rrr) m c tp armed busy e = steady e (registered c rrr _ (tag_of c rrr))
after (JumpRegister test rrr two) m c tp armed busy e = steady e (jumps-if _ m c (onward tp 2) two)
after (RegisterMemory work rrr o) m c tp armed busy e = steady e (then (grows c o (size_of o.wide)) (writes work (grown c o (size_of o.wide)) rrr _))
after (MemoryRegister work rrr o) m c tp armed busy e = steady e (grows c o (size_of o.wide))
after (MemoryImmediate work o) m c tp armed busy e = steady e (grows c o (size_of o.wide))
after (MemoryAlone single o) m c tp armed busy e = steady e (grows c o (size_of o.wide))
after (JumpMemory test o two) m c tp armed busy e = steady e (then (grows c o (size_of o.wide)) (jumps-if _ m (grown c o (size_of o.wide)) (after_pair tp o) two))
after (Lpd ppp o) m c tp armed busy e = steady e (then (grows c o 4) (registered (grown c o 4) ppp _ false))
after (MovpLoad ppp o) m c tp armed busy e = steady e (then (grows c o 3) (registered (grown c o 3) ppp _ _))
after (MovpStore ppp o) m c tp armed busy e = steady e (grows c o 3)
after (MovMemory o) m c tp armed busy e = steady e (second-steady m c tp o (second_at m tp o))
after (Tsl o) m c tp armed busy e = steady e (tsl-steady m c tp o)
after (Call o two) m c tp armed busy e = steady e (then (grows c o 3) (jumps-if true m (grown c o 3) (after_pair tp o) two))
after (JumpMasked equal o two) m c tp armed busy e = steady e (then (grows c o 1) (jumps-if _ m (grown c o 1) (after_pair tp o) two))
after (JumpBit test bit o two) m c tp armed busy e = steady e (then (grows c o 1) (jumps-if _ m (grown c o 1) (after_pair tp o) two))
after (Bit on bit o) m c tp armed busy e = steady e (grows c o 1)

-- the channel with TP past an instruction is sound where the channel is
advanced-sound : (c : Channel) (n : ℕ) → sound_channel c ≡ true → sound_channel (past_instruction c n) ≡ true
unfolding past_instruction renewed
advanced-sound c n = sound-by c (past_instruction c n) refl (λ s. s) (λ s. s) (λ s. s) (λ s. onward-small c.tp n)

-- and its fields those of CC
advanced-agree : (c : Channel) (n : ℕ) → fields_agree c ≡ true → fields_agree (past_instruction c n) ≡ true
unfolding past_instruction renewed
advanced-agree c n = same-agrees c (past_instruction c n) refl refl

-- it has XF where it was marked, and as it was where it was not
marked-xf : (armed : Bool) (psw : ℕ) → transferring (used_up armed psw) ≡ (armed || transferring psw)
unfolding used_up with_psw
marked-xf true psw = bit-same psw 6 true
marked-xf false psw = refl

module _ (c : Channel) (busy : ℕ) (m : Buffers) where
  after-shape : (s : Shape) → After s c.armed (past_instruction c (length_of s)) (deed_of s m c busy).channel
  unfolding deed_of past_instruction renewed
  after-shape s = after s m (past_instruction c (length_of s)) c.tp c.armed busy refl

  -- a sound channel stays sound
  pub execute-sound : sound_channel c ≡ true → sound_channel (execute_of c busy m).channel ≡ true
  execute-sound h =
      by_number c busy m (λ o. sound_channel o.channel ≡ true)
      (λ n ne. h)
      (λ s e z. (after-shape s).sound (advanced-sound c (length_of s) h))

  -- the fields stay those of CC, also where the instruction writes CC
  pub execute-agree : fields_agree c ≡ true → fields_agree (execute_of c busy m).channel ≡ true
  execute-agree h =
      by_number c busy m (λ o. fields_agree o.channel ≡ true)
      (λ n ne. h)
      (λ s e z. (after-shape s).agree (advanced-agree c (length_of s) h))

  -- a done instruction leaves nothing held
  pub execute-drops : (execute_of c busy m).number ≡ 0 → (execute_of c busy m).channel.held ≡ None
  unfolding past_instruction
  execute-drops =
      by_number c busy m (λ o. o.number ≡ 0 → o.channel.held ≡ None)
      (λ n no_zero z. absurd (no_zero z))
      (λ s e z zero_number. (after-shape s).held refl)

  -- PP never changes
  pub pp-kept : (execute_of c busy m).channel.pp ≡ c.pp
  unfolding past_instruction renewed
  pp-kept = by_number c busy m (λ o. o.channel.pp ≡ c.pp) (λ n ne. refl) (λ s e z. (after-shape s).pp)

  shape-else : (s t : Shape) → decoded_at m c.tp ≡ Ok s → (decoded_at m c.tp ≡ Ok t → ⊥) → (b : Bool) → (b ≡ true → s ≡ t) → b ≡ false
  shape-else s t e ne true h = absurd (ne (e ∙ ap Ok (h refl)))
  shape-else s t e ne false h = refl

  -- the mode changes by HLT alone
  pub mode-kept : ¬ (Halts m c) → (execute_of c busy m).channel.mode ≡ c.mode
  unfolding past_instruction renewed
  mode-kept ne =
      by_number c busy m (λ o. o.channel.mode ≡ c.mode)
      (λ n z. refl)
      (λ s e z. let a = after-shape s in a.mode ∙ ap (λ (b : Bool). pick b Idle c.mode) (shape-else s Hlt e ne a.halts a.halts-is))

  -- XF after a done instruction other than HLT: it is 1 where the channel was armed, and as it was where not
  pub xf-after : ¬ (Halts m c) → (execute_of c busy m).number ≡ 0 → transferring (execute_of c busy m).channel.psw ≡ (c.armed || transferring c.psw)
  unfolding past_instruction renewed
  xf-after ne =
      by_number c busy m (λ o. o.number ≡ 0 → transferring o.channel.psw ≡ (c.armed || transferring c.psw))
      (λ n no_zero z. absurd (no_zero z))
      (λ s e z zero_number. let a = after-shape s in
      a.xf
      ∙ ap (λ (b : Bool). pick b false (transferring (used_up c.armed c.psw))) (shape-else s Hlt e ne a.halts a.halts-is)
      ∙ marked-xf c.armed c.psw)

  -- no instruction but XFER leaves a mark
  pub mark-used : ¬ (Arms m c) → (execute_of c busy m).number ≡ 0 → (execute_of c busy m).channel.armed ≡ false
  mark-used ne =
      by_number c busy m (λ o. o.number ≡ 0 → o.channel.armed ≡ false)
      (λ n no_zero z. absurd (no_zero z))
      (λ s e z zero_number. let a = after-shape s in a.mark ∙ ap (λ (b : Bool). pick b (not c.armed) false) (shape-else s Xfer e ne a.arms a.arms-is))

  -- an armed channel has XF after its next done instruction that is not HLT, and the mark is gone
  pub armed-then : c.armed ≡ true → ¬ (Halts m c) → (execute_of c busy m).number ≡ 0
      → (transferring (execute_of c busy m).channel.psw ≡ true) × ((execute_of c busy m).channel.armed ≡ false)
  armed-then h ne z = (xf-after ne z ∙ ap (λ (b : Bool). b || transferring c.psw) h, gone z)
    where
      spent : (b : Bool) → pick b false false ≡ false
      spent true = refl
      spent false = refl

      gone : (execute_of c busy m).number ≡ 0 → (execute_of c busy m).channel.armed ≡ false
      gone =
          by_number c busy m (λ o. o.number ≡ 0 → o.channel.armed ≡ false)
          (λ n no_zero z. absurd (no_zero z))
          (λ s e z zero_number. let a = after-shape s in a.mark ∙ ap (λ (b : Bool). pick a.arms (not b) false) h ∙ spent a.arms)

  -- XFER arms a channel that is not armed, and leaves XF
  pub xfer-arms : Arms m c → c.armed ≡ false → (execute_of c busy m).number ≡ 0
      → ((execute_of c busy m).channel.armed ≡ true) × ((execute_of c busy m).channel.psw ≡ c.psw)
  unfolding deed_of performed xfer_deed mark_set past_instruction renewed used_up
  xfer-arms e h z = rw (done c busy m Xfer e z) (rw h (refl, refl))

  -- HLT leaves no mark and no XF, as halt does: idle, TB and XF 0, unarmed
  pub hlt-ends : Halts m c → (execute_of c busy m).number ≡ 0
      → ((execute_of c busy m).channel.armed ≡ false) × (transferring (execute_of c busy m).channel.psw ≡ false)
      × (program_running (execute_of c busy m).channel.psw ≡ false) × ((execute_of c busy m).channel.mode ≡ Idle)
  unfolding deed_of performed hlt_deed halted with_control stopped_psw past_instruction renewed with_psw
  hlt-ends e z =
      let psw = used_up c.armed c.psw in
      rw (done c busy m Hlt e z)
      (refl, bit-same (with_bit psw 2 false) 6 false, bit-other (with_bit psw 2 false) 6 2 false (eqb-false 2 6 refl) ∙ bit-same psw 2 false, refl)

  -- and clears BUSY
  pub hlt-busy : Halts m c → (execute_of c busy m).number ≡ 0 → byte_at (execute_of c busy m).memory false busy ≡ 0
  unfolding deed_from deed_of performed hlt_deed changed places_of span all_pass
  hlt-busy e z =
      rw (done c busy m Hlt e z)
      (read_same m false busy 0 (sym (system-touchable m busy) ∙ both_left (touchable_at m false busy) true (rw e at (stores-touchable c busy m (sym (number_is c busy m) ∙ z)))))
