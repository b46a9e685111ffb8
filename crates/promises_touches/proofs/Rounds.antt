-- The row of a host: what is fetched is what the device has; once the told reads stay the call may be made; and after three rounds, where each of three parts
-- of the reads hangs on nothing but the parts before it.
-- Assumes nothing.
use Prim.Native.Nat.{ℕ}
use lib.ListN.{length, get_or, drop}
use mathlib.Core.Bool.{Bool, true, false}
use mathlib.Core.List.{List, [], ◌∷◌, ◌++◌, append-nil, append_assoc}
use mathlib.Core.Logic.{◌⊎◌, inl, inr, ⊎_elim}
use mathlib.Core.Path.{◌≡◌, refl, sym, ap, ap₂, subst, ◌∙◌}
use native.Mathlib.Decide.{ℕ_discrete}
use Rattle.ground_rules.proofs.ChoiceLaws.{apart}
use Rattle.ground_rules.proofs.PlaceLaws.{byte-index}
use Rattle.ground_rules.proofs.StoreLaws.{store_length, same-lent, read_same, read-other, store-beyond, slot-reads}
use Rattle.ground_rules.specs.Buffers.{Buffers, space_of, index_of, lent_at, beyond_in, byte_at, store_byte}
use Rattle.ground_rules.specs.Choice.{pick}
use Rattle.ground_rules.specs.Places.{Place}
use Rattle.promises_counts.proofs.AgreeLaws.{agree-self, agree_left}
use Rattle.promises_counts.specs.Complete.{SameLengths, AgreeOn}
use Rattle.touch_rules.specs.Told.{Told}
use Rattle.promises_touches.specs.Protocol.{fetched_at, fetched_all, round_of, Alongside, SameCall, AskedFirst, Begins, NextIsRead}
use Rattle.promises_touches.specs.Words.{told_read_places, told_store_places, KeepsWord}

-- a byte of system space is the same where that is
pub system-byte : (device have : Buffers) → have.sys ≡ device.sys → (a : ℕ) → byte_at have false a ≡ byte_at device false a
unfolding byte_at space_of
system-byte device have e a = ap (λ (b : List ℕ). get_or b (index_of false a) (beyond_in false)) e

-- ---- a byte that is fetched

module _ (device : Buffers) where
  -- nothing of system space changes, and no length
  at-system : (have : Buffers) (p : Place) → (fetched_at device have p).sys ≡ have.sys
  unfolding fetched_at store_byte
  at-system have p = go p.tag
    where
      go : (t : Bool) → (pick t (store_byte have true p.address (byte_at device true p.address)) have).sys ≡ have.sys
      go true = refl
      go false = refl

  at_length : (have : Buffers) (p : Place) (u : Bool) → length (space_of (fetched_at device have p) u) ≡ length (space_of have u)
  unfolding fetched_at
  at_length have p u = go p.tag
    where
      go : (t : Bool) → length (space_of (pick t (store_byte have true p.address (byte_at device true p.address)) have) u) ≡ length (space_of have u)
      go true = store_length have true u p.address (byte_at device true p.address)
      go false = refl

  at-alongside : (have : Buffers) (p : Place) → Alongside device have → Alongside device (fetched_at device have p)
  at-alongside have p w = record { lengths = λ u. at_length have p u ∙ w.lengths u; system = at-system have p ∙ w.system }

  -- it is the device's then
  at-got : (have : Buffers) (p : Place) → Alongside device have → byte_at (fetched_at device have p) p.tag p.address ≡ byte_at device p.tag p.address
  unfolding fetched_at
  at-got have p w = go p.tag
    where
      a : ℕ
      a = p.address

      slot : (b : Bool) → lent_at have true a ≡ b → byte_at (store_byte have true a (byte_at device true a)) true a ≡ byte_at device true a
      slot true e = read_same have true a (byte_at device true a) e
      slot false e =
          ap (λ (o : Buffers). byte_at o true a) (store-beyond have true a (byte_at device true a) e)
          ∙ slot-reads have a e
          ∙ sym (slot-reads device a (sym (same-lent device have w.lengths true a) ∙ e))

      go : (t : Bool) → byte_at (pick t (store_byte have true a (byte_at device true a)) have) t a ≡ byte_at device t a
      go true = slot (lent_at have true a) refl
      go false = system-byte device have w.system a

  -- and a byte that was the device's stays so
  at-kept : (have : Buffers) (p : Place) (u : Bool) (b : ℕ) → byte_at have u b ≡ byte_at device u b → byte_at (fetched_at device have p) u b ≡ byte_at device u b
  unfolding fetched_at
  at-kept have p u b h = go p.tag u h
    where
      a : ℕ
      a = p.address

      io : Dec (index_of true a ≡ index_of true b) → byte_at have true b ≡ byte_at device true b → byte_at (store_byte have true a (byte_at device true a)) true b ≡ byte_at device true b
      io (no ne) h = read-other have true a (byte_at device true a) true b (λ e i. ne i) ∙ h
      io (yes i) h = slot (lent_at have true a) refl
        where
          slot : (x : Bool) → lent_at have true a ≡ x → byte_at (store_byte have true a (byte_at device true a)) true b ≡ byte_at device true b
          slot true e =
              sym (byte-index (store_byte have true a (byte_at device true a)) true a b i)
              ∙ read_same have true a (byte_at device true a) e
              ∙ byte-index device true a b i
          slot false e = ap (λ (o : Buffers). byte_at o true b) (store-beyond have true a (byte_at device true a) e) ∙ h

      go : (t u : Bool) → byte_at have u b ≡ byte_at device u b → byte_at (pick t (store_byte have true a (byte_at device true a)) have) u b ≡ byte_at device u b
      go false u h = h
      go true true h = io (ℕ_discrete (index_of true a) (index_of true b)) h
      go true false h = read-other have true a (byte_at device true a) false b (λ e i. apart e) ∙ h

  -- ---- bytes that are fetched

  all-alongside : (ps : List Place) (have : Buffers) → Alongside device have → Alongside device (fetched_all device ps have)
  unfolding fetched_all
  all-alongside [] have w = w
  all-alongside (p ∷ ps) have w = all-alongside ps (fetched_at device have p) (at-alongside have p w)

  all-kept : (ps : List Place) (have : Buffers) (u : Bool) (b : ℕ) → byte_at have u b ≡ byte_at device u b → byte_at (fetched_all device ps have) u b ≡ byte_at device u b
  unfolding fetched_all
  all-kept [] have u b h = h
  all-kept (p ∷ ps) have u b h = all-kept ps (fetched_at device have p) u b (at-kept have p u b h)

  all-got : (ps : List Place) (have : Buffers) → Alongside device have → AgreeOn ps device (fetched_all device ps have)
  unfolding fetched_all
  all-got [] have w = tt
  all-got (p ∷ ps) have w =
      (all-kept ps (fetched_at device have p) p.tag p.address (at-got have p w), all-got ps (fetched_at device have p) (at-alongside have p w))

-- ---- rounds

pub agree-back : (ps : List Place) (m n : Buffers) → AgreeOn ps m n → AgreeOn ps n m
agree-back [] m n h = tt
agree-back (p ∷ ps) m n h = (sym h.0, agree-back ps m n h.1)

-- the reads of a call on the device in three parts, of which each is told where those before it are the device's
pub record InThree (reads : Buffers → List Place) (device : Buffers) : Type 0 where
  pub first : List Place
  pub second : List Place
  pub third : List Place
  pub all : reads device ≡ (first ++ second) ++ third
  pub one : (n : Buffers) → SameLengths device n → Begins first (reads n)
  pub two : (n : Buffers) → SameLengths device n → AgreeOn first device n → Begins (first ++ second) (reads n)
  pub three : (n : Buffers) → SameLengths device n → AgreeOn (first ++ second) device n → reads n ≡ (first ++ second) ++ third

-- the same reads
pub in-three-by : (reads others : Buffers → List Place) (device : Buffers) → ((n : Buffers) → SameLengths device n → reads n ≡ others n) → InThree others device → InThree reads device
in-three-by reads others device e p =
    record {
      first = p.first;
      second = p.second;
      third = p.third;
      all = e device (λ t. refl) ∙ p.all;
      one = λ n l. record { rest = (p.one n l).rest; joined = e n l ∙ (p.one n l).joined };
      two = λ n l h. record { rest = (p.two n l h).rest; joined = e n l ∙ (p.two n l h).joined };
      three = λ n l h. e n l ∙ p.three n l h;
    }

-- reads that hang on no byte
pub in-three-fixed : (ps : List Place) (device : Buffers) → InThree (λ n. ps) device
in-three-fixed ps device =
    let e : ps ≡ (ps ++ []) ++ [] = sym (ap (λ (qs : List Place). qs ++ []) (append-nil ps) ∙ append-nil ps) in
    record {
      first = ps;
      second = [];
      third = [];
      all = e;
      one = λ n l. record { rest = []; joined = sym (append-nil ps) };
      two = λ n l h. record { rest = []; joined = e };
      three = λ n l h. e;
    }

module _ (told : Buffers → List Told) (device : Buffers) where
  pub round-alongside : (have : Buffers) → Alongside device have → Alongside device (round_of told device have)
  unfolding round_of
  round-alongside have w = all-alongside device (told_read_places (told have)) have w

  pub round-got : (have : Buffers) → Alongside device have → AgreeOn (told_read_places (told have)) device (round_of told device have)
  unfolding round_of
  round-got have w = all-got device (told_read_places (told have)) have w

module _ {A : Type 0} (told : Buffers → List Told) (number : Buffers → ℕ) (answer : Buffers → A) (after : Buffers → Buffers) (word : (m : Buffers) → KeepsWord told number answer after m) (device : Buffers) where
  -- memories that have the device's bytes at its reads
  pub call_same : (have : Buffers) → Alongside device have → AgreeOn (told_read_places (told device)) device have → SameCall told number answer after device have
  call_same have w h =
      let k = word device in
      let q = k.same have w.lengths h in
      record {
        list = q.list;
        answered = q.answered;
        stores = k.stores;
        placed = λ z. k.placed z ∙ ap told_store_places (sym q.list);
        refused = k.refused;
        here = q.left;
        there = (k.same device (λ t. refl) (agree-self (told_read_places (told device)) device)).left;
      }

  -- a round that leaves the told reads
  list-stays : (have : Buffers) → Alongside device have → told_read_places (told (round_of told device have)) ≡ told_read_places (told have) → SameCall told number answer after device (round_of told device have)
  list-stays have w e =
      let r = round_of told device have in
      let got : AgreeOn (told_read_places (told r)) device r = subst (λ (ps : List Place). AgreeOn ps device r) (sym e) (round-got told device have w) in
      let back = ((word r).same device (λ t. sym ((round-alongside told device have w).lengths t)) (agree-back (told_read_places (told r)) device r got)).list in
      call_same r (round-alongside told device have w) (subst (λ (ts : List Told). AgreeOn (told_read_places ts) device r) (sym back) got)

  -- what is begun with is fetched
  begun : (ps : List Place) (have : Buffers) → Alongside device have → Begins ps (told_read_places (told have)) → AgreeOn ps device (round_of told device have)
  begun ps have w b = agree_left device (round_of told device have) ps b.rest (subst (λ (qs : List Place). AgreeOn qs device (round_of told device have)) b.joined (round-got told device have w))

  -- three rounds
  pub asked-first : InThree (λ n. told_read_places (told n)) device → (have : Buffers) → Alongside device have → AskedFirst told number answer after device have
  asked-first p have w =
      let r₁ = round_of told device have in
      let w₁ = round-alongside told device have w in
      let h₁ : AgreeOn p.first device r₁ = begun p.first have w (p.one have w.lengths) in
      let r₂ = round_of told device r₁ in
      let w₂ = round-alongside told device r₁ w₁ in
      let h₂ : AgreeOn (p.first ++ p.second) device r₂ = begun (p.first ++ p.second) r₁ w₁ (p.two r₁ w₁.lengths h₁) in
      let e : told_read_places (told r₂) ≡ told_read_places (told device) = p.three r₂ w₂.lengths h₂ ∙ sym p.all in
      record {
        stays = list-stays have w;
        third = e;
        made = call_same (round_of told device r₂) (round-alongside told device r₂ w₂) (subst (λ (ps : List Place). AgreeOn ps device (round_of told device r₂)) e (round-got told device r₂ w₂));
      }

-- ---- one byte after the other

begins-on : (ps qs rs : List Place) → Begins ps qs → Begins qs rs → Begins ps rs
begins-on ps qs rs a b =
    record {
      rest = a.rest ++ b.rest;
      joined = b.joined ∙ ap (λ (l : List Place). l ++ b.rest) a.joined ∙ append_assoc ps a.rest b.rest;
    }

-- of two ways to cut a list one part begins with the other
cut_apart : (ks xs bs ys : List Place) (p : Place) → ks ++ xs ≡ bs ++ (p ∷ ys) → Begins (bs ++ (p ∷ [])) ks ⊎ Begins ks bs
cut_apart [] xs bs ys p e = inr (record { rest = bs; joined = refl })
cut_apart (a ∷ ks) xs [] ys p e = inl (record { rest = ks; joined = ap (λ (q : Place). q ∷ ks) (ap (λ (l : List Place). get_or l 0 a) e) })
cut_apart (a ∷ ks) xs (b ∷ bs) ys p e =
    let same : a ≡ b = ap (λ (l : List Place). get_or l 0 a) e in
    ⊎_elim
    (λ k. inl (record { rest = k.rest; joined = ap₂ (λ (q : Place) (l : List Place). q ∷ l) same k.joined }))
    (λ k. inr (record { rest = k.rest; joined = ap₂ (λ (q : Place) (l : List Place). q ∷ l) (sym same) k.joined }))
    (cut_apart ks xs bs ys p (ap (drop 1) e))

-- the next told read is the device's, where those before it are
pub next-read : (told : Buffers → List Told) (device have : Buffers) → InThree (λ n. told_read_places (told n)) have → Alongside device have → NextIsRead told device have
next-read told device have q w before behind p e h =
    ⊎_elim
    (λ k. begins-on (before ++ (p ∷ [])) q.first (told_read_places (told device)) k (q.one device lengths))
    (λ k. ⊎_elim
    (λ i. begins-on (before ++ (p ∷ [])) (q.first ++ q.second) (told_read_places (told device)) i (q.two device lengths (within q.first k)))
    (λ i. record {
      rest = behind;
      joined = q.three device lengths (within (q.first ++ q.second) i) ∙ sym q.all ∙ e ∙ sym (append_assoc before (p ∷ []) behind);
    })
    (cut_apart (q.first ++ q.second) q.third before behind p (sym q.all ∙ e)))
    (cut_apart q.first (q.second ++ q.third) before behind p (sym (append_assoc q.first q.second q.third) ∙ sym q.all ∙ e))
  where
    lengths : SameLengths have device
    lengths t = sym (w.lengths t)

    within : (ps : List Place) → Begins ps before → AgreeOn ps have device
    within ps k = agree_left have device ps k.rest (subst (λ (l : List Place). AgreeOn l have device) k.joined (agree-back before device have h))
