-- What a done sweep leaves, beside the transfer itself: a sound state that agrees, of the same board; the other channel, CP and every byte outside the
-- destination as they were.
-- Assumes nothing.
use Prim.Native.Nat.{ℕ, zero, suc, ◌+◌, ◌%◌, ◌<◌, ◌≤◌}
use borrow.Author.Tests.{lt-ltb, eq-eqb, ne_eqb}
use lib.Dec.{eqb, ltb, lit<}
use mathlib.Core.Bool.{Bool, true, not, ◌&&◌}
use mathlib.Core.Path.{◌≡◌, refl, ap, ◌∙◌}
use native.Mathlib.Decide.{ℕ_discrete}
use native.Mathlib.Nat.{mod-lt}
use native.Mathlib.Omega.{arith}
use Rattle.ground_rules.specs.Values.{onward}
use Rattle.ground_rules.proofs.ChoiceLaws.{both_left, both_right}
use Rattle.ground_rules.specs.Choice.{pick}
use Rattle.ground_rules.proofs.StoreLaws.{store_length, read-other}
use Rattle.ground_rules.specs.Buffers.{Buffers, byte_at}
use Rattle.ground_rules.specs.declared.Pointer.{Pointer}
use Rattle.ground_rules.proofs.ChannelLaws.{put_same, put_other, put-cp, last-channel, sound-channel-of}
use Rattle.ground_rules.proofs.FieldLaws.{agree-channel-of}
use Rattle.ground_rules.specs.States.{channel_of, with_channel, with_last, sound_channel, sound, fields_agree, agree, is_second}
use Rattle.ground_rules.specs.Updates.{with_transfer}
use Rattle.ground_rules.specs.declared.Channel.{Channel}
use Rattle.ground_rules.specs.declared.State.{State}
use Rattle.block_rules.proofs.CountLaws.{total-most}
use Rattle.block_rules.proofs.CopyLaws.{within-then}
use Rattle.block_rules.specs.Premises.{into}
use Rattle.block_rules.specs.Stages.{finished, Within}
use Rattle.transfer_rules.specs.Ends.{offset_of}
use Rattle.turn_rules.proofs.SoundLaws.{done-sound, done-agree, done-board}
use Rattle.sweep_rules.specs.Copies.{copied_on}
use Rattle.sweep_rules.specs.Sweep.{Sweep, bytes_to_go, done_sweep, sweep_number, sweep_of}
use Rattle.sweep_rules.proofs.PassedLaws.{accepted-sweep, refused-sweep}

-- a channel at the end of a transfer has pointers of 20 bits where it had them before
finished-sound : (c : Channel) (n : ℕ) → sound_channel c ≡ true → sound_channel (finished c n) ≡ true
unfolding finished with_transfer sound_channel onward
finished-sound c n h =
    let a = ltb c.ga.address 1048576 in
    let b = ltb c.gb.address 1048576 in
    let d = ltb c.gc.address 1048576 in
    let e = ltb c.tp.address 1048576 in
    let pointers : a && b && d && e ≡ true = both_left (a && b && d && e) (ltb c.pp 1048576) h in
    rw (
      small c.ga n,
      small c.gb n,
      both_right (a && b) d (both_left (a && b && d) e pointers),
      small c.tp (offset_of c.fields.countEnd),
      both_right (a && b && d && e) (ltb c.pp 1048576) h,
    )
  where
    small : (p : Pointer) (by : ℕ) → ltb (onward p by).address 1048576 ≡ true
    small p by = lt-ltb ((p.address + by) % 1048576) 1048576 (mod-lt (p.address + by) (lit< tt))

-- and its fields are those of its CC where they were
finished-agree : (c : Channel) (n : ℕ) → fields_agree c ≡ true → fields_agree (finished c n) ≡ true
unfolding finished with_transfer fields_agree
finished-agree c n h = h

-- a block put elsewhere changes no byte but those of its destination
pub copied-spares : (m : Buffers) (p q : Pointer) (n j : ℕ) → j ≤ n → Within q n m (copied_on m p q j)
unfolding copied_on
copied-spares m p q n zero h = record { others = λ u b o. refl; lengths = λ u. refl }
copied-spares m p q n (suc j) h =
    let k = copied_on m p q j in
    within-then q n m k (copied_on m p q (suc j)) (copied-spares m p q n j (omega arith))
    (record {
      others = λ u b o. read-other k q.tag (q.address + j) (byte_at k p.tag (p.address + j)) u b (o j h);
      lengths = λ u. store_length k q.tag u (q.address + j) (byte_at k p.tag (p.address + j));
    })

module _ (s : State) (m : Buffers) (second : Bool) where
  pub swept-last : (done_sweep s m second).state.last ≡ second
  unfolding done_sweep with_last
  swept-last = refl

  pub swept-sound : sound s ≡ true → sound (done_sweep s m second).state ≡ true
  unfolding done_sweep
  swept-sound h =
      let c = channel_of s second in
      done-sound s second (finished c (bytes_to_go c)) h (finished-sound c (bytes_to_go c) (sound-channel-of s second h))

  pub swept-agree : agree s ≡ true → agree (done_sweep s m second).state ≡ true
  unfolding done_sweep
  swept-agree h =
      let c = channel_of s second in
      done-agree s second (finished c (bytes_to_go c)) h (finished-agree c (bytes_to_go c) (agree-channel-of s second h))

  pub swept-board : (done_sweep s m second).state.board ≡ s.board
  unfolding done_sweep
  swept-board = let c = channel_of s second in done-board s second (finished c (bytes_to_go c))

  pub swept-other : channel_of (done_sweep s m second).state (not second) ≡ channel_of s (not second)
  unfolding done_sweep
  swept-other =
      let c = channel_of s second in
      last-channel (with_channel s second (finished c (bytes_to_go c))) second (not second) ∙ put_other s second (finished c (bytes_to_go c))

  -- its channel put back into the given state and made last is the whole of it
  pub swept-again : with_last (with_channel s second (channel_of (done_sweep s m second).state second)) second ≡ (done_sweep s m second).state
  unfolding done_sweep
  swept-again =
      let c = channel_of s second in
      let d = finished c (bytes_to_go c) in
      ap (λ (x : Channel). with_last (with_channel s second x) second) (last-channel (with_channel s second d) second second ∙ put_same s second d)

  pub swept-cp : (done_sweep s m second).state.cp ≡ s.cp
  unfolding done_sweep with_last
  swept-cp = let c = channel_of s second in put-cp s second (finished c (bytes_to_go c))

  pub swept-spares : Within (into (channel_of s second)) (bytes_to_go (channel_of s second)) m (done_sweep s m second).memory
  unfolding done_sweep
  swept-spares = let c = channel_of s second in copied-spares m _ (into c) (bytes_to_go c) (bytes_to_go c) (omega arith)

-- ---- the steps

-- of a BC of 16 bits there are 1 to 65,536 bytes to go
pub to-go : (c : Channel) → c.bc < 65536 → (1 ≤ bytes_to_go c) × (bytes_to_go c ≤ 65536) × (c.bc ≡ bytes_to_go c % 65536)
unfolding bytes_to_go
to-go c h = go (ℕ_discrete c.bc 0)
  where
    go : Dec (c.bc ≡ 0) → (1 ≤ pick (eqb c.bc 0) 65536 c.bc) × (pick (eqb c.bc 0) 65536 c.bc ≤ 65536) × (c.bc ≡ pick (eqb c.bc 0) 65536 c.bc % 65536)
    go (yes z) = rw (eq-eqb c.bc 0 z) (omega arith, omega arith, omega arith)
    go (no z) = rw (ne_eqb c.bc 0 z) (omega arith, omega arith, omega arith)

-- so a sweep stands for at most 65,536 steps
pub steps-most : (s : State) (m : Buffers) (channel lines : ℕ) → (channel_of s (is_second channel)).bc < 65536 → (sweep_of s m channel lines).steps ≤ 65536
unfolding done_sweep
steps-most s m channel lines small = go (ℕ_discrete (sweep_number s m channel lines) 0)
  where
    go : Dec (sweep_number s m channel lines ≡ 0) → (sweep_of s m channel lines).steps ≤ 65536
    go (yes z) =
        let c = channel_of s (is_second channel) in
        let g = to-go c small in
        omega (arith, ap (λ (o : Sweep). o.steps) (accepted-sweep s m channel lines z), total-most c (bytes_to_go c) g.0, g.1)
    go (no ne) = omega (arith, ap (λ (o : Sweep). o.steps) (refused-sweep s m channel lines ne))
