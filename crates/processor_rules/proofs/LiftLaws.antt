-- The lifting's own laws, once for every call: what it leaves alone, what it looks at, what the one named gets, its numbers, and that they decide it.
-- Assumes nothing.
use Prim.Native.Nat.{ℕ}
use borrow.Author.Tests.{eqb-true, eqb-false}
use lib.Dec.{eqb}
use mathlib.Core.Bool.{Bool, true, false, not}
use mathlib.Core.List.{List}
use mathlib.Core.Logic.{inl, inr, ⊎_elim, ◌↔◌}
use mathlib.Core.Path.{◌≡◌, refl, sym, ap, ap₂, subst, ◌∙◌}
use Rattle.ground_rules.specs.Choice.{pick}
use Rattle.ground_rules.specs.Buffers.{Buffers, buffers}
use Rattle.ground_rules.specs.Conditions.{Check, Given}
use Rattle.ground_rules.specs.States.{is_channel, is_second, channel_number}
use Rattle.ground_rules.proofs.ChannelLaws.{named}
use Rattle.ground_rules.proofs.ConditionLaws.{Told, told-eqb, told-or, told-exactly}
use Rattle.processor_rules.specs.Lifting.{Called, called_with, Lifted, lifted_to, called_on, lifted}
use Rattle.processor_rules.specs.Lifts.{seen_by, SameFor, LeftAlone, NoProcessor, Lifts, checks_on, Numbers}
use Rattle.processor_rules.specs.Processors.{Processors, processors, Memories, memories, is_processor, processor_named, processor_number, processor_of, with_processor, io_of, buffers_of, with_buffers}

-- ---- what is put under a name

module _ {S : Type 0} (p : Processors S) where
  put_same : (b : Bool) (s : S) → processor_of (with_processor p b s) b ≡ s
  unfolding processor_of with_processor
  put_same true s = refl
  put_same false s = refl

  put_other : (b : Bool) (s : S) → processor_of (with_processor p b s) (not b) ≡ processor_of p (not b)
  unfolding processor_of with_processor
  put_other true s = refl
  put_other false s = refl

  put-again : (b : Bool) (s t : S) → with_processor (with_processor p b s) b t ≡ with_processor p b t
  unfolding with_processor
  put-again true s t = refl
  put-again false s t = refl

  put_back : (b : Bool) → with_processor p b (processor_of p b) ≡ p
  unfolding processor_of with_processor
  put_back true = refl
  put_back false = refl

module _ (m : Memories) where
  buffers-same : (b : Bool) (n : Buffers) → buffers_of (with_buffers m b n) b ≡ n
  unfolding buffers_of with_buffers io_of
  buffers-same true n = refl
  buffers-same false n = refl

  io-other : (b : Bool) (n : Buffers) → io_of (with_buffers m b n) (not b) ≡ io_of m (not b)
  unfolding io_of with_buffers
  io-other true n = refl
  io-other false n = refl

  buffers-again : (b : Bool) (n k : Buffers) → with_buffers (with_buffers m b n) b k ≡ with_buffers m b k
  unfolding with_buffers
  buffers-again true n k = refl
  buffers-again false n k = refl

  buffers-back : (b : Bool) → with_buffers m b (buffers_of m b) ≡ m
  unfolding buffers_of with_buffers io_of
  buffers-back true = refl
  buffers-back false = refl

-- ---- which numbers name a processor

told-processor : (processor : ℕ) → Told (is_processor processor) (NoProcessor processor)
unfolding is_channel
told-processor processor = told-or (told-eqb processor 1) (told-eqb processor 2)

-- both names' own numbers do
pub is-processor : (b : Bool) → is_processor (processor_number b) ≡ true
unfolding is_channel channel_number
is-processor true = refl
is-processor false = refl

-- ---- the lifting

-- a call leaves the state and the memories that it was given
abbrev pub Stays : {S A : Type 0} → (S → Buffers → Called S A) → S → Buffers → Type 0
Stays call s m = ((call s m).state ≡ s) × ((call s m).memory ≡ m)

module _ {S A : Type 0} (call : S → Buffers → Called S A) where
  -- what the one called gets is what its call gives
  pub called-seen : (p : Processors S) (m : Memories) (b : Bool) → seen_by b (called_on call p m b) ≡ call (processor_of p b) (buffers_of m b)
  unfolding called_on
  called-seen p m b =
      let o = call (processor_of p b) (buffers_of m b) in
      ap₂ (called_with o.answer) (put_same p b o.state) (buffers-same m b o.memory)

  -- the other is left alone
  pub called-other : (p : Processors S) (m : Memories) (b : Bool) → LeftAlone (not b) p m (called_on call p m b)
  unfolding called_on
  called-other p m b =
      let o = call (processor_of p b) (buffers_of m b) in
      record { state = put_other p b o.state; io = io-other m b o.memory }

  -- a call that leaves what it was given leaves both
  pub called-back : (p : Processors S) (m : Memories) (b : Bool) → Stays call (processor_of p b) (buffers_of m b)
      → called_on call p m b ≡ lifted_to (call (processor_of p b) (buffers_of m b)).answer p m
  unfolding called_on
  called-back p m b e =
      ap₂ (lifted_to (call (processor_of p b) (buffers_of m b)).answer)
      (ap (with_processor p b) e.0 ∙ put_back p b) (ap (with_buffers m b) e.1 ∙ buffers-back m b)

  -- a call after a call of the same one is one call of it
  pub called-again : {B : Type 0} (next : S → Buffers → Called S B) (p : Processors S) (m : Memories) (b : Bool)
      → let o = call (processor_of p b) (buffers_of m b) in
      called_on next (called_on call p m b).both (called_on call p m b).memory b ≡ called_on (λ _ _. next o.state o.memory) p m b
  unfolding called_on
  called-again next p m b =
      let o = call (processor_of p b) (buffers_of m b) in
      rw (put_same p b o.state, buffers-same m b o.memory, put-again p b o.state, buffers-again m b o.memory)

  module _ (twelve : A) where
    pub lifted-named : (p : Processors S) (m : Memories) (b : Bool) → lifted twelve call p m (processor_number b) ≡ called_on call p m b
    unfolding lifted
    lifted-named p m b = rw (is-processor b, named b)

    pub lifted-none : (p : Processors S) (m : Memories) (processor : ℕ) → NoProcessor processor → lifted twelve call p m processor ≡ lifted_to twelve p m
    unfolding lifted
    lifted-none p m processor h = rw ((told-exactly (told-processor processor)).1 h)

    -- the other is left alone, also where the number names none
    lifted-kept : (p : Processors S) (m : Memories) (processor : ℕ) → LeftAlone (not (processor_named processor)) p m (lifted twelve call p m processor)
    unfolding lifted
    lifted-kept p m processor = go (is_processor processor)
      where
        go : (z : Bool) → LeftAlone (not (processor_named processor)) p m (pick z (called_on call p m (processor_named processor)) (lifted_to twelve p m))
        go true = called-other p m (processor_named processor)
        go false = record { state = refl; io = refl }

    lifted-same : (p : Processors S) (m : Memories) (p' : Processors S) (m' : Memories) (processor : ℕ) → SameFor (processor_named processor) p m p' m'
        → seen_by (processor_named processor) (lifted twelve call p' m' processor) ≡ seen_by (processor_named processor) (lifted twelve call p m processor)
    unfolding lifted
    lifted-same p m p' m' processor h = go (is_processor processor)
      where
        b : Bool
        b = processor_named processor

        go : (z : Bool) → seen_by b (pick z (called_on call p' m' b) (lifted_to twelve p' m')) ≡ seen_by b (pick z (called_on call p m b) (lifted_to twelve p m))
        go true = called-seen p' m' b ∙ ap₂ call h.state h.memory ∙ sym (called-seen p m b)
        go false = ap₂ (called_with twelve) h.state h.memory

    -- the names stand for what they say
    lifted-one : (s t : S) (sys io ports : List ℕ) → seen_by false (lifted twelve call (processors s t) (memories sys io ports) 1) ≡ call s (buffers sys io)
    unfolding lifted called_on is_channel is_second processor_of with_processor io_of buffers_of with_buffers
    lifted-one s t sys io ports = refl

    lifted-two : (s t : S) (sys io ports : List ℕ) → seen_by true (lifted twelve call (processors s t) (memories sys io ports) 2) ≡ call t (buffers sys ports)
    unfolding lifted called_on is_channel is_second processor_of with_processor io_of buffers_of with_buffers
    lifted-two s t sys io ports = refl

    pub lifts : Lifts twelve call (lifted twelve call)
    lifts =
        record {
          kept = lifted-kept;
          same = lifted-same;
          own = λ p m b. ap (seen_by b) (lifted-named p m b) ∙ called-seen p m b;
          one = lifted-one;
          two = lifted-two;
          none = lifted-none;
        }

    -- the numbers, given the call's own
    module _ (number : A → ℕ) (checks : S → Buffers → List Check) (is : number twelve ≡ 12)
        (single : (s : S) (m : Buffers) (n : ℕ) → (number (call s m).answer ≡ n) ↔ Given (checks s m) n) where
      pub lifted-exactly : (p : Processors S) (m : Memories) (processor n : ℕ)
          → (number (lifted twelve call p m processor).answer ≡ n) ↔ Given (checks_on checks p m processor) n
      unfolding lifted called_on
      lifted-exactly p m processor n = go (is_processor processor) (told-processor processor)
        where
          b : Bool
          b = processor_named processor

          go : (z : Bool) → Told z (NoProcessor processor)
              → (number (pick z (called_on call p m b) (lifted_to twelve p m)).answer ≡ n) ↔ Given (checks_on checks p m processor) n
          go true told = (
            λ e. inr (told.holds refl, (single (processor_of p b) (buffers_of m b) n).0 e),
            ⊎_elim (λ h. absurd (told.holds refl h.0)) (λ h. (single (processor_of p b) (buffers_of m b) n).1 h.1),
          )
          go false told = (λ e. inl (told.fails refl, sym e ∙ is), ⊎_elim (λ h. is ∙ sym h.1) (λ h. absurd (h.0 (told.fails refl))))

    -- a refused one changes nothing, where the call of the one named does not
    module _ (number : A → ℕ) where
      pub lifted-refused : (p : Processors S) (m : Memories) (processor : ℕ)
          → (let s = processor_of p (processor_named processor) in let n = buffers_of m (processor_named processor) in ¬ (number (call s n).answer ≡ 0) → Stays call s n)
          → ¬ (number (lifted twelve call p m processor).answer ≡ 0) → lifted twelve call p m processor ≡ lifted_to (lifted twelve call p m processor).answer p m
      unfolding lifted called_on
      lifted-refused p m processor stays = go (is_processor processor)
        where
          b : Bool
          b = processor_named processor

          go : (z : Bool) → let o = pick z (called_on call p m b) (lifted_to twelve p m) in ¬ (number o.answer ≡ 0) → o ≡ lifted_to o.answer p m
          go true h = called-back p m b (stays h)
          go false h = refl

    -- both, where no call that is refused changes anything
    pub lifted-numbers : (number : A → ℕ) (checks : S → Buffers → List Check) → number twelve ≡ 12
        → ((s : S) (m : Buffers) (n : ℕ) → (number (call s m).answer ≡ n) ↔ Given (checks s m) n)
        → ((s : S) (m : Buffers) → ¬ (number (call s m).answer ≡ 0) → Stays call s m) → Numbers number checks (lifted twelve call)
    lifted-numbers number checks is single stays =
        record {
          exactly = lifted-exactly number checks is single;
          refused = λ p m processor. lifted-refused number p m processor (stays (processor_of p (processor_named processor)) (buffers_of m (processor_named processor)));
        }

-- ---- the promise decides the call

-- a number names processor 1, processor 2 or none
by_number : (Q : ℕ → Type 0) → ((b : Bool) → Q (processor_number b)) → ((n : ℕ) → NoProcessor n → Q n) → (n : ℕ) → Q n
unfolding channel_number
by_number Q named none n = go (eqb n 1) refl (eqb n 2) refl
  where
    go : (y : Bool) → eqb n 1 ≡ y → (z : Bool) → eqb n 2 ≡ z → Q n
    go true e z f = subst Q (sym (eqb-true n 1 e)) (named false)
    go false e true f = subst Q (sym (eqb-true n 2 f)) (named true)
    go false e false f = none n (eqb-false n 1 e, eqb-false n 2 f)

module _ {S A : Type 0} where
  parts : {a a' : A} {p p' : Processors S} {m m' : Memories} → a ≡ a' → p ≡ p' → m ≡ m' → lifted_to a p m ≡ lifted_to a' p' m'
  parts e f g = λ i. lifted_to (e i) (f i) (g i)

  -- what one processor gets, and the other's state and I/O memory, are all that a call leaves
  all-parts : (b : Bool) (o o' : Lifted S A) → seen_by b o ≡ seen_by b o' → LeftAlone (not b) o'.both o'.memory o → o ≡ o'
  unfolding processor_of io_of buffers_of
  all-parts true o o' e k =
      parts (ap (λ (x : Called S A). x.answer) e) (ap₂ processors k.state (ap (λ (x : Called S A). x.state) e))
      (ap₂ (λ (io : List ℕ) (n : Buffers). memories n.sys io n.io) k.io (ap (λ (x : Called S A). x.memory) e))
  all-parts false o o' e k =
      parts (ap (λ (x : Called S A). x.answer) e) (ap₂ processors (ap (λ (x : Called S A). x.state) e) k.state)
      (ap₂ (λ (n : Buffers) (io : List ℕ). memories n.sys n.io io) (ap (λ (x : Called S A). x.memory) e) k.io)

  -- two calls that keep it are the same
  pub lifts-decide : {twelve : A} {call : S → Buffers → Called S A} (f g : Processors S → Memories → ℕ → Lifted S A) → Lifts twelve call f → Lifts twelve call g
      → (p : Processors S) (m : Memories) (processor : ℕ) → f p m processor ≡ g p m processor
  lifts-decide f g h k p m =
      by_number (λ (n : ℕ). f p m n ≡ g p m n)
      (λ b.
      let x = rw (named b) at (h.kept p m (processor_number b)) in
      let y = rw (named b) at (k.kept p m (processor_number b)) in
      all-parts b (f p m (processor_number b)) (g p m (processor_number b)) (h.own p m b ∙ sym (k.own p m b))
      (record { state = x.state ∙ sym y.state; io = x.io ∙ sym y.io }))
      (λ n z. h.none p m n z ∙ sym (k.none p m n z))
