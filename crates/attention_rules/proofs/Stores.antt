-- What an attention stores is at most the bytes that it touches.
-- Assumes nothing.
use Prim.Native.Nat.{ℕ, ◌+◌, ◌<◌}
use lib.Dec.{lit<}
use lib.ListN.{length}
use mathlib.Core.Bool.{Bool, false}
use mathlib.Core.List.{List}
use mathlib.Core.Path.{◌≡◌, refl, ◌∙◌}
use native.Mathlib.Nat.{add-zero}
use Rattle.ground_rules.specs.Outcomes.{Outcome}
use Rattle.ground_rules.specs.States.{channel_of, is_second, busy_in}
use Rattle.ground_rules.specs.declared.Channel.{Channel}
use Rattle.ground_rules.specs.declared.State.{State}
use Rattle.ground_rules.proofs.SpanLaws.{apart-at}
use Rattle.ground_rules.proofs.StoreLaws.{store_length, read-other}
use Rattle.ground_rules.specs.Buffers.{Buffers, space_of, byte_at, store_byte}
use Rattle.ground_rules.specs.Places.{Place, span, Apart, ApartFrom}
use Rattle.ground_rules.specs.Values.{store_pointer}
use Rattle.ground_rules.specs.declared.Pointer.{Pointer}
use Rattle.ground_rules.specs.Stored.{stored_low, stored_middle, stored_high}
use Rattle.attention_rules.specs.Attention.{order_to, ordered_memory, attention_of}
use Rattle.attention_rules.specs.Effects.{saved, marked, stored_memory}
use Rattle.attention_rules.specs.Touched.{stored_by}
use Rattle.attention_rules.specs.declared.Command.{Command}
use Rattle.attention_rules.specs.declared.Command.TheVariants.{Update, StartLocal, StartSystem, Suspend, Resume, Halt, Unknown}
use Rattle.attention_rules.proofs.Outcomes.{attention-by}

-- what is saved is in PB's first four bytes
saved-else : (m : Buffers) (pb : ℕ) (tp : Pointer) (psw : ℕ) (t : Bool) (b : ℕ) → ApartFrom (span false pb 4) t b → byte_at (saved m pb tp psw) t b ≡ byte_at m t b
unfolding saved store_pointer
saved-else m pb tp psw t b h =
    let m₁ = store_byte m false pb (stored_low tp.address) in
    let m₂ = store_byte m₁ false (pb + 1) (stored_middle tp.address) in
    let m₃ = store_byte m₂ false (pb + 2) (stored_high tp.address tp.tag) in
    let at : (k : ℕ) → k < 4 → Apart false (pb + k) t b = λ k. apart-at false pb 4 k t b h in
    read-other m₃ false (pb + 3) psw t b (at 3 (lit< tt))
    ∙ read-other m₂ false (pb + 2) (stored_high tp.address tp.tag) t b (at 2 (lit< tt))
    ∙ read-other m₁ false (pb + 1) (stored_middle tp.address) t b (at 1 (lit< tt))
    ∙ read-other m false pb (stored_low tp.address) t b (rw add-zero at (at 0 (lit< tt)))

-- every byte that a command does not store is as it was
stored-else : (k : Command) (m : Buffers) (block pb : ℕ) (c : Channel) (t : Bool) (b : ℕ) → ApartFrom (stored_by k block pb) t b
    → byte_at (stored_memory k m block pb c) t b ≡ byte_at m t b
unfolding stored_memory stored_by marked span
stored-else Update m block pb c t b h = refl
stored-else StartLocal m block pb c t b h = read-other m false (busy_in block) 255 t b h.0
stored-else StartSystem m block pb c t b h = read-other m false (busy_in block) 255 t b h.0
stored-else Suspend m block pb c t b h =
    read-other (saved m pb c.tp c.psw) false (busy_in block) 0 t b h.1.1.1.1.0
    ∙ saved-else m pb c.tp c.psw t b (h.0, (h.1.0, (h.1.1.0, (h.1.1.1.0, tt))))
stored-else Resume m block pb c t b h = read-other m false (busy_in block) 255 t b h.0
stored-else Halt m block pb c t b h = read-other m false (busy_in block) 0 t b h.0
stored-else Unknown m block pb c t b h = refl

-- no store changes the length of a memory
stored-length : (k : Command) (m : Buffers) (block pb : ℕ) (c : Channel) (t : Bool) → length (space_of (stored_memory k m block pb c) t) ≡ length (space_of m t)
unfolding stored_memory marked saved store_pointer
stored-length Update m block pb c t = refl
stored-length StartLocal m block pb c t = simp store_length
stored-length StartSystem m block pb c t = simp store_length
stored-length Suspend m block pb c t = simp store_length
stored-length Resume m block pb c t = simp store_length
stored-length Halt m block pb c t = simp store_length
stored-length Unknown m block pb c t = refl

module _ (s : State) (m : Buffers) (channel : ℕ) where
  -- the bytes that the order in a channel's block stores
  abbrev pub stored_places : List Place
  stored_places = stored_by (order_to s m (is_second channel)).command (order_to s m (is_second channel)).block (order_to s m (is_second channel)).pb

  -- every byte that is none of those is as it was
  pub bytes-kept : (t : Bool) (b : ℕ) → ApartFrom stored_places t b → byte_at (attention_of s m channel).memory t b ≡ byte_at m t b
  unfolding ordered_memory
  bytes-kept t b h =
      attention-by s m channel (λ (r : Outcome). byte_at r.memory t b ≡ byte_at m t b) refl
      (stored-else (order_to s m (is_second channel)).command m _ _ (channel_of s (is_second channel)) t b h)

  -- no length changes
  pub lengths-kept : (t : Bool) → length (space_of (attention_of s m channel).memory t) ≡ length (space_of m t)
  unfolding ordered_memory
  lengths-kept t =
      attention-by s m channel (λ (r : Outcome). length (space_of r.memory t) ≡ length (space_of m t)) refl
      (stored-length (order_to s m (is_second channel)).command m _ _ (channel_of s (is_second channel)) t)
