-- The premises of the showpiece can be met: for either channel, every n that fits, odd and even places and all widths, whatever else memory holds.
-- Assumes nothing.
use Prim.Native.Nat.{ℕ, zero, suc, ◌+◌, ◌<◌, ◌≤◌}
use borrow.Author.Tests.{lt-ltb}
use lib.Dec.{lit<, lit≤}
use lib.ListN.{length, get_or, length-replicate}
use mathlib.Core.Bool.{Bool, true, false, ◌&&◌}
use mathlib.Core.List.{List, [], ◌∷◌}
use mathlib.Core.Logic.{⊎_elim, inl, inr}
use mathlib.Core.Path.{◌≡◌, refl, sym, ap, ap₂, subst, ◌∙◌}
use native.Mathlib.Nat.{add-zero}
use native.Mathlib.Omega.{arith}
use Rattle.ground_rules.proofs.ConditionLaws.{told-limits}
use Rattle.ground_rules.specs.Conditions.{TooLong}
use Rattle.ground_rules.specs.States.{fresh_state, block_of}
use Rattle.ground_rules.proofs.PlaceLaws.{index-apart, index-small}
use Rattle.ground_rules.proofs.StoreLaws.{store_length, store-lent, read_same, read-other, io-touchable, lent-touchable}
use Rattle.ground_rules.specs.Buffers.{Buffers, space_of, limit_of, index_of, lent_at, byte_at, touchable_at, store_byte}
use Rattle.ground_rules.specs.Places.{Place, Apart, all_pass, all_touchable}
use Rattle.ground_rules.specs.Values.{pointer}
use Rattle.ground_rules.specs.declared.Pointer.{Pointer}
use Rattle.ground_rules.specs.Choice.{pick}
use Rattle.promises.specs.Cases.{Stand}
use Rattle.promises_blocks.specs.Image.{put, WholeSystem, layout_of, copy_of, image_in, ReadyMet}
use Rattle.promises_blocks.specs.Met.{zeros_of, zeros}
use Rattle.block_rules.specs.Premises.{Lent}
use Rattle.promises_blocks.specs.Program.{Job, Layout, system_place, from_place, into_place, block_at, busy_at, doubleword, program_of, most_by, most_of, JobReady, RunCopies, run_in, RowMade}
use Rattle.block_rules.specs.Stages.{Outside}
use Rattle.promises_blocks.proofs.CopyWitness.{zeros_within}
use Rattle.promises_blocks.proofs.Showpiece.{fits-exactly, showpiece, row_made}
use Rattle.promises.proofs.StandLaws.{stand-kept}

-- ---- bytes put into memory

-- lengths stay
pub put-length : (m : Buffers) (a : ℕ) (vs : List ℕ) (u : Bool) → length (space_of (put m a vs) u) ≡ length (space_of m u)
unfolding put
put-length m a [] u = refl
put-length m a (v ∷ vs) u = put-length (store_byte m false a v) (a + 1) vs u ∙ store_length m false u a v

-- so what is lent stays lent
pub put-lent : (m : Buffers) (a : ℕ) (vs : List ℕ) (u : Bool) (x : ℕ) → lent_at (put m a vs) u x ≡ lent_at m u x
unfolding put
put-lent m a [] u x = refl
put-lent m a (v ∷ vs) u x = put-lent (store_byte m false a v) (a + 1) vs u x ∙ store-lent m false u a x v

-- other bytes stay
pub put_other : (m : Buffers) (a : ℕ) (vs : List ℕ) (u : Bool) (x : ℕ) → Outside (pointer a false) (length vs) u x → byte_at (put m a vs) u x ≡ byte_at m u x
unfolding put
put_other m a [] u x o = refl
put_other m a (v ∷ vs) u x o =
    put_other (store_byte m false a v) (a + 1) vs u x (λ i h. let e : a + suc i ≡ a + 1 + i = omega arith in subst (λ (y : ℕ). Apart false y u x) e (o (suc i) (omega arith)))
    ∙ read-other m false a v u x (subst (λ (y : ℕ). Apart false y u x) (add-zero a) (o 0 (omega arith)))

-- they stand where they were put
put-read : (m : Buffers) (a : ℕ) (vs : List ℕ) → length vs ≤ 65536 → Lent m (pointer a false) (length vs)
    → (i : ℕ) → i < length vs → byte_at (put m a vs) false (a + i) ≡ get_or vs i 0
unfolding put
put-read m a [] fit l i h = absurd (omega arith)
put-read m a (v ∷ vs) fit l zero h =
    ap (byte_at (put (store_byte m false a v) (a + 1) vs) false) (add-zero a)
    ∙ put_other (store_byte m false a v) (a + 1) vs false a
    (λ i h' e x. let y : a + 1 + i ≡ a + suc i = omega arith in index-apart false a 0 (suc i) (omega arith) (omega arith) (ap (index_of false) (add-zero a) ∙ sym x ∙ ap (index_of false) y))
    ∙ read_same m false a v (ap (lent_at m false) (sym (add-zero a)) ∙ l 0 (omega arith))
put-read m a (v ∷ vs) fit l (suc i) h =
    let e : a + suc i ≡ a + 1 + i = omega arith in
    ap (byte_at (put (store_byte m false a v) (a + 1) vs) false) e
    ∙ put-read (store_byte m false a v) (a + 1) vs (omega arith)
    (λ k h'. store-lent m false false a (a + 1 + k) v ∙ (let y : a + 1 + k ≡ a + suc k = omega arith in ap (lent_at m false) y) ∙ l (suc k) (omega arith)) i (omega arith)

pub put-stand : (m : Buffers) (a : ℕ) (vs : List ℕ) → length vs ≤ 65536 → Lent m (pointer a false) (length vs) → Stand (put m a vs) (pointer a false) vs
put-stand m a vs fit l = record { lent = λ i h. put-lent m a vs false (a + i) ∙ l i h; read = put-read m a vs fit l }

-- and after other bytes are put elsewhere
pub stand-put : {m : Buffers} {p : Pointer} {bytes : List ℕ} (a : ℕ) (vs : List ℕ) → Stand m p bytes
    → ((i : ℕ) → i < length bytes → Outside (pointer a false) (length vs) p.tag (p.address + i)) → Stand (put m a vs) p bytes
stand-put {m} {p} a vs s o =
    stand-kept s (put m a vs) (put-lent m a vs) (λ i h. put_other m a vs p.tag (p.address + i) (o i h))

-- ---- the image

-- two addresses of 20 bits that differ are different bytes
pub differ : (x y : ℕ) → x < 1048576 → y < 1048576 → (x ≡ y → ⊥) → Apart false x false y
unfolding index_of limit_of
differ x y h h' ne e z = ne (omega arith)

-- in a whole memory every address is lent
pub whole-lent : (m : Buffers) (a : ℕ) → WholeSystem m → lent_at m false a ≡ true
unfolding lent_at
whole-lent m a h = lt-ltb (index_of false a) (length (space_of m false)) (omega (arith, index-small false a))

-- and every byte may be touched
pub whole-touchable : (m : Buffers) → WholeSystem m → (ps : List Place) → all_touchable m ps ≡ true
unfolding all_pass
whole-touchable m h [] = refl
whole-touchable m h (p ∷ ps) = ap₂ ◌&&◌ (at p.tag) (whole-touchable m h ps)
  where
    at : (t : Bool) → touchable_at m t p.address ≡ true
    at true = io-touchable m p.address
    at false = lent-touchable m false p.address (whole-lent m p.address h)

-- and so after bytes are put there, which stand there
pub whole-put : (m : Buffers) (a : ℕ) (vs : List ℕ) → WholeSystem m → WholeSystem (put m a vs)
whole-put m a vs h = omega (arith, h, put-length m a vs false)

pub whole-stand : (m : Buffers) (a : ℕ) (vs : List ℕ) → length vs ≤ 65536 → WholeSystem m → Stand (put m a vs) (pointer a false) vs
whole-stand m a vs fit h = put-stand m a vs fit (λ i _. whole-lent m (a + i) h)

-- the block is at 0 or 8
pub block-low : (b : Bool) → block_at (layout_of b) ≤ 8
unfolding block_of fresh_state
block-low true = lit≤ tt
block-low false = lit≤ tt

-- the source begins at 40h or 41h
from_low : (odd : Bool) → (64 ≤ (system_place (pick odd 0x41 0x40) 0).address) × ((system_place (pick odd 0x41 0x40) 0).address ≤ 65)
from_low true = (lit≤ tt, lit≤ tt)
from_low false = (lit≤ tt, lit≤ tt)

-- the destination at 10050h or 10051h
into-low : (odd : Bool) → (65616 ≤ (system_place (pick odd 0x51 0x50) 0x1000).address) × ((system_place (pick odd 0x51 0x50) 0x1000).address ≤ 65617)
into-low true = (lit≤ tt, lit≤ tt)
into-low false = (lit≤ tt, lit≤ tt)

-- as many as fit are at most 65,536
most-low : (s d : Bool) → most_by s d ≤ 65536
most-low true d = lit≤ tt
most-low false true = lit≤ tt
most-low false false = lit≤ tt

module _ (m : Buffers) (whole : WholeSystem m) (fit : ¬ (TooLong m)) (b from_odd into_odd from_wide into_wide : Bool) (n lines : ℕ) where
  abbrev j : Job
  j = copy_of from_odd into_odd from_wide into_wide n

  abbrev l : Layout
  l = layout_of b

  abbrev m₁ : Buffers
  m₁ = put m (block_at l) (0x03 ∷ [])

  abbrev m₂ : Buffers
  m₂ = put m₁ (block_at l + 2) (doubleword 0x10 0)

  abbrev m₃ : Buffers
  m₃ = put m₂ 0x10 (doubleword 0x20 0)

  abbrev m₄ : Buffers
  m₄ = put m₃ 0x20 (program_of j)

  image-is : image_in m j l ≡ m₄
  unfolding image_in
  image-is = refl

  -- the program's length
  size : length (program_of j) ≡ 26
  unfolding program_of
  size = refl

  -- lengths stay, and all is lent on the way
  lengths : (u : Bool) → length (space_of m₄ u) ≡ length (space_of m u)
  lengths u = put-length m₃ 0x20 (program_of j) u ∙ put-length m₂ 0x10 (doubleword 0x20 0) u ∙ put-length m₁ (block_at l + 2) (doubleword 0x10 0) u ∙ put-length m (block_at l) (0x03 ∷ []) u

  lent : (a : ℕ) → lent_at m₄ false a ≡ true
  lent a = whole-lent m₄ a (omega (arith, whole, lengths false))

  short : ¬ (TooLong m₄)
  unfolding space_of
  short = ⊎_elim (λ h. fit (inl (omega (arith, h, lengths false)))) (λ h. fit (inr (omega (arith, h, lengths true))))

  -- what is put is not lost by what is put after it: CCW
  command : Stand m₄ (pointer (block_at l) false) (0x03 ∷ [])
  command =
      stand-put 0x20 (program_of j)
      (stand-put 0x10 (doubleword 0x20 0)
      (stand-put (block_at l + 2) (doubleword 0x10 0)
      (whole-stand m (block_at l) (0x03 ∷ []) (lit≤ tt) whole)
      (λ i h k h'. differ (block_at l + 2 + k) (block_at l + i) (omega (arith, block-low b)) (omega (arith, block-low b)) (λ e. omega arith)))
      (λ i h k h'. differ (0x10 + k) (block_at l + i) (omega arith) (omega (arith, block-low b)) (λ e. omega (arith, block-low b))))
      (λ i h k h'. differ (0x20 + k) (block_at l + i) (omega (arith, h', size)) (omega (arith, block-low b)) (λ e. omega (arith, block-low b)))

  -- where PB is
  parameters : Stand m₄ (pointer (block_at l + 2) false) (doubleword 0x10 0)
  parameters =
      stand-put 0x20 (program_of j)
      (stand-put 0x10 (doubleword 0x20 0)
      (whole-stand m₁ (block_at l + 2) (doubleword 0x10 0) (lit≤ tt) (whole-put m (block_at l) (0x03 ∷ []) whole))
      (λ i h k h'. differ (0x10 + k) (block_at l + 2 + i) (omega arith) (omega (arith, block-low b)) (λ e. omega (arith, block-low b))))
      (λ i h k h'. differ (0x20 + k) (block_at l + 2 + i) (omega (arith, h', size)) (omega (arith, block-low b)) (λ e. omega (arith, block-low b)))

  -- where the program is
  task : Stand m₄ (pointer 0x10 false) (doubleword 0x20 0)
  task =
      stand-put 0x20 (program_of j)
      (whole-stand m₂ 0x10 (doubleword 0x20 0) (lit≤ tt) (whole-put m₁ (block_at l + 2) (doubleword 0x10 0) (whole-put m (block_at l) (0x03 ∷ []) whole)))
      (λ i h k h'. differ (0x20 + k) (0x10 + i) (omega (arith, h', size)) (omega arith) (λ e. omega arith))

  -- and the program
  program : Stand m₄ (pointer 0x20 false) (program_of j)
  program =
      whole-stand m₃ 0x20 (program_of j) (omega (arith, size))
      (whole-put m₂ 0x10 (doubleword 0x20 0) (whole-put m₁ (block_at l + 2) (doubleword 0x10 0) (whole-put m (block_at l) (0x03 ∷ []) whole)))

  -- so the image is ready, with the largest limit
  ready : 1 ≤ n → n ≤ most_of j → lines < 16 → JobReady j l (image_in m j l) lines 65535
  ready some most few =
      let fits : n ≤ 65536 = omega (arith, most, most-low from_wide into_wide) in
      let x = (from_place j).address in
      let y = (into_place j).address in
      rw image-is
      (record {
        cp_fits = lit< tt;
        lines_fit = few;
        limit_fits = lit< tt;
        buffers_fit = short;
        some = some;
        most = fits;
        enough = (fits-exactly j some fits).1 most;
        command = command;
        busy = lent (busy_at l);
        parameters = parameters;
        task = task;
        program = program;
        from_lent = λ i h. lent (x + i);
        into_lent = λ i h. lent (y + i);
        apart = λ i k h h'. differ (y + k) (x + i) (omega (arith, into-low into_odd)) (omega (arith, from_low from_odd)) (λ e. omega (arith, into-low into_odd, from_low from_odd));
        busy_from = λ i h. differ (x + i) (busy_at l) (omega (arith, from_low from_odd)) (omega (arith, block-low b)) (λ e. omega (arith, from_low from_odd, block-low b));
        busy_into = λ i h. differ (y + i) (busy_at l) (omega (arith, into-low into_odd)) (omega (arith, block-low b)) (λ e. omega (arith, into-low into_odd, block-low b));
        busy_program = λ i h. differ (0x20 + i) (busy_at l) (omega (arith, h, size)) (omega (arith, block-low b)) (λ e. omega (arith, block-low b));
        halt_kept = λ i h k h'. differ (y + k) (0x20 + (24 + i)) (omega (arith, into-low into_odd)) (omega arith) (λ e. omega (arith, into-low into_odd));
      })

-- every such image is
pub ready-met : ReadyMet
ready-met m whole fit b from_odd into_odd from_wide into_wide n lines = ready m whole fit b from_odd into_odd from_wide into_wide n lines

-- there is such a memory: all of system memory at 0
pub zeros-whole : (size : ℕ) → length (space_of (zeros_of size) false) ≡ size
unfolding zeros_of space_of
zeros-whole size = simp length-replicate

module _ (b from_odd into_odd from_wide into_wide : Bool) (n : ℕ) (some : 1 ≤ n) (most : n ≤ most_by from_wide into_wide) where
  abbrev copied : Job
  copied = copy_of from_odd into_odd from_wide into_wide n

  abbrev image : Buffers
  image = image_in zeros copied (layout_of b)

  zeros-ready : JobReady copied (layout_of b) image 0 65535
  zeros-ready =
      ready-met zeros (omega (arith, zeros-whole 1048576)) ((told-limits zeros).holds zeros_within) b from_odd into_odd from_wide into_wide n 0 some most (lit< tt)

  -- the program copies in it, for either channel, from odd or even to odd or even, by all widths and for every n that fits
  pub zeros-copied : RunCopies copied (layout_of b) image (run_in (layout_of b) image 0 65535)
  zeros-copied = showpiece copied (layout_of b) image 0 65535 zeros-ready

  -- and demand 3's row is in that run, made by fresh, attention and XFER
  pub zeros-row : RowMade copied (layout_of b) image 0
  zeros-row = row_made copied (layout_of b) image 0 65535 zeros-ready
