-- The list of an attention is complete.
-- Assumes nothing.
use Prim.Native.Nat.{ℕ}
use borrow.Author.Tests.{eqb-true, eqb-false, eq-eqb}
use lib.Dec.{eqb, lit<}
use mathlib.Core.Bool.{Bool, true, false}
use mathlib.Core.List.{List, [], ◌∷◌, ◌++◌, append_assoc, append-nil}
use mathlib.Core.Path.{◌≡◌, refl, sym, ap, ap₂, ◌∙◌}
use Rattle.ground_rules.specs.Choice.{pick}
use Rattle.ground_rules.specs.Stored.{stored_low, stored_middle, stored_high}
use Rattle.ground_rules.specs.Buffers.{Buffers}
use Rattle.ground_rules.specs.Places.{Place, span}
use Rattle.ground_rules.specs.Values.{pointer, store_pointer}
use Rattle.ground_rules.proofs.ConditionLaws.{first-none-left, first-none-right}
use Rattle.ground_rules.proofs.OutcomeLaws.{first_some}
use Rattle.ground_rules.specs.Outcomes.{unless, first, settled}
use Rattle.ground_rules.specs.Stages.{Stage, stage, stages_number, stages_touched}
use Rattle.ground_rules.specs.States.{channel_of, with_channel, is_second, is_channel, block_of, busy_in}
use Rattle.ground_rules.specs.declared.Channel.{Channel}
use Rattle.ground_rules.specs.declared.Mode.{Mode}
use Rattle.ground_rules.specs.declared.State.{State}
use Rattle.attention_rules.specs.Attention.{order_to, order_number, channel_attended, ordered_memory, given_to, attention_number, attention_of, touched_by_attention}
use Rattle.attention_rules.specs.Blocks.{ccw_of, pointer_of, parameter_block, order_of}
use Rattle.attention_rules.specs.Commands.{command_of, command_number, ordered}
use Rattle.attention_rules.specs.Effects.{only_psw, started, resumed, commanded, channel_ordered, saved, marked, stored_memory}
use Rattle.attention_rules.specs.Touched.{read_by, stored_by, others, order_stages, touched_by_order}
use Rattle.attention_rules.specs.declared.Command.{Command}
use Rattle.attention_rules.specs.declared.Command.TheVariants.{Update, StartLocal, StartSystem, Suspend, Resume, Halt, Unknown}
use Rattle.attention_rules.specs.declared.Order.{Order}
use Rattle.promises_counts.specs.Complete.{SameLengths, AgreeOn}
use Rattle.promises_counts.specs.Lists.{outcome_parts, AttentionComplete}
use Rattle.promises_counts.specs.Stores.{Store, stores_made, store_places}
use Rattle.promises_counts.proofs.AgreeLaws.{agree_left, agree_right, agree_at, word_same, doubleword-same, pointer-same, given-same, number_same}
use Rattle.promises_counts.proofs.TraceLaws.{Traced, complete, settled-told, settled-left, stores_at, four-made}

-- ---- what a command stores

-- BUSY
busy_stored : ℕ → ℕ → List Store
busy_stored block v = stores_at false (busy_in block) (v ∷ [])

-- what each command stores, in order
command_stores : Command → ℕ → ℕ → Channel → List Store
command_stores Update block pb c = []
command_stores StartLocal block pb c = busy_stored block 255
command_stores StartSystem block pb c = busy_stored block 255
command_stores Suspend block pb c =
    stores_at false pb (stored_low c.tp.address ∷ stored_middle c.tp.address ∷ stored_high c.tp.address c.tp.tag ∷ c.psw ∷ []) ++ busy_stored block 0
command_stores Resume block pb c = busy_stored block 255
command_stores Halt block pb c = busy_stored block 0
command_stores Unknown block pb c = []

command-places : (k : Command) (block pb : ℕ) (c : Channel) → store_places (command_stores k block pb c) ≡ stored_by k block pb
unfolding command_stores busy_stored store_places stores_at stored_by span
command-places Update block pb c = refl
command-places StartLocal block pb c = refl
command-places StartSystem block pb c = refl
command-places Suspend block pb c = refl
command-places Resume block pb c = refl
command-places Halt block pb c = refl
command-places Unknown block pb c = refl

command-made : (k : Command) (block pb : ℕ) (c : Channel) (m : Buffers) → stored_memory k m block pb c ≡ stores_made m (command_stores k block pb c)
unfolding command_stores busy_stored stores_made stores_at stored_memory marked saved store_pointer
command-made Update block pb c m = refl
command-made StartLocal block pb c m = refl
command-made StartSystem block pb c m = refl
command-made Suspend block pb c m =
    ap (λ (o : Buffers). marked o block 0) (sym (four-made m false pb (stored_low c.tp.address) (stored_middle c.tp.address) (stored_high c.tp.address c.tp.tag) c.psw))
command-made Resume block pb c m = refl
command-made Halt block pb c m = refl
command-made Unknown block pb c m = refl

-- ---- what a command reads

module _ (m n : Buffers) where
  -- where PB lies
  pb-same : (k : Command) (block pb pp : ℕ) → AgreeOn (read_by k block pb) m n → parameter_block k n block pp ≡ parameter_block k m block pp
  unfolding read_by parameter_block
  pb-same Update block pb pp h = refl
  pb-same StartLocal block pb pp h = doubleword-same m n false (pointer_of block) (agree_left m n (span false (pointer_of block) 4) (span false pb 2) h)
  pb-same StartSystem block pb pp h = doubleword-same m n false (pointer_of block) (agree_left m n (span false (pointer_of block) 4) (span false pb 4) h)
  pb-same Suspend block pb pp h = refl
  pb-same Resume block pb pp h = refl
  pb-same Halt block pb pp h = refl
  pb-same Unknown block pb pp h = refl

  -- what the command makes of the channel
  commanded-same : (k : Command) (block pb : ℕ) (c : Channel) → AgreeOn (read_by k block pb) m n → commanded k n pb c ≡ commanded k m pb c
  unfolding read_by commanded
  commanded-same Update block pb c h = refl
  commanded-same StartLocal block pb c h =
      ap (λ (a : ℕ). started c pb (pointer a true)) (word_same m n false pb 2 (lit< tt) (agree_right m n (span false (pointer_of block) 4) (span false pb 2) h))
  commanded-same StartSystem block pb c h =
      ap (λ (a : ℕ). started c pb (pointer a false)) (doubleword-same m n false pb (agree_right m n (span false (pointer_of block) 4) (span false pb 4) h))
  commanded-same Suspend block pb c h = refl
  commanded-same Resume block pb c h = ap₂ (resumed c) (pointer-same m n false pb 4 (lit< tt) h) (agree_at m n false pb 4 3 h (lit< tt))
  commanded-same Halt block pb c h = refl
  commanded-same Unknown block pb c h = refl

-- ---- stages

two-split : (A R S : List Place) (x : Bool) → A ++ pick x ((R ++ S) ++ []) [] ≡ (A ++ pick x R []) ++ pick x S []
two-split A R S true = simp (append-nil, append_assoc)
two-split A R S false = simp append-nil

two-places : (x : Bool) (ws : List Store) → store_places (pick x ws []) ≡ pick x (store_places ws) []
unfolding store_places
two-places true ws = refl
two-places false ws = refl

-- what an order reads, in some mode of its channel
unfoldable pub read_in : Order → Mode → List Place
read_in o mode = span false o.block 1 ++ pick (eqb (command_number o.command mode) 0) (read_by o.command o.block o.pb) []

-- the places that it stores to
unfoldable pub written_in : Order → Mode → List Place
written_in o mode = pick (eqb (command_number o.command mode) 0) (stored_by o.command o.block o.pb) []

-- what it stores
stored_in : Order → Channel → List Store
stored_in o c = pick (eqb (command_number o.command c.mode) 0) (command_stores o.command o.block o.pb c) []

read-and-stored : (o : Order) (mode : Mode) → touched_by_order o mode ≡ read_in o mode ++ written_in o mode
unfolding touched_by_order stages_touched order_stages others read_in written_in
read-and-stored o mode =
    two-split (span false o.block 1) (read_by o.command o.block o.pb) (stored_by o.command o.block o.pb) (eqb (command_number o.command mode) 0)

stored-places : (o : Order) (c : Channel) → store_places (stored_in o c) ≡ written_in o c.mode
unfolding stored_in written_in
stored-places o c =
    let x = eqb (command_number o.command c.mode) 0 in
    two-places x (command_stores o.command o.block o.pb c) ∙ ap (λ (ps : List Place). pick x ps []) (command-places o.command o.block o.pb c)

-- a refused command is refused after CCW, wherever PB lies
refused-list : (o : Order) (mode : Mode) → eqb (command_number o.command mode) 0 ≡ false → touched_by_order o mode ≡ span false o.block 1 ++ []
unfolding touched_by_order stages_touched order_stages
refused-list o mode e = rw e

refused-number : (m : Buffers) (ps : List Place) (k : ℕ) (rest rest' : List Stage) → (k ≡ 0 → ⊥) → stages_number m (stage ps k ∷ rest) ≡ stages_number m (stage ps k ∷ rest')
unfolding stages_number
refused-number m ps k rest rest' ne = ap (first _) (first_some k (stages_number m rest) ne ∙ sym (first_some k (stages_number m rest') ne))

module _ (s : State) (channel : ℕ) (m : Buffers) where
  abbrev c : Channel
  c = channel_of s (is_second channel)

  abbrev order : Buffers → Order
  order o = order_to s o (is_second channel)

  -- ---- in other memories

  module _ (n : Buffers) (l : SameLengths m n) (h : AgreeOn (read_in (order m) c.mode) m n) where
    ccw-same : ccw_of n (block_of s (is_second channel)) ≡ ccw_of m (block_of s (is_second channel))
    unfolding read_in span ccw_of order_to order_of
    ccw-same = h.0

    pub command-same : (order n).command ≡ (order m).command
    unfolding order_to order_of
    command-same = ap command_of ccw-same

    read-after : eqb (command_number (order m).command c.mode) 0 ≡ true → AgreeOn (read_by (order m).command (order m).block (order m).pb) m n
    unfolding read_in
    read-after e = rw e at (agree_right m n (span false (order m).block 1) (pick (eqb (command_number (order m).command c.mode) 0) (read_by (order m).command (order m).block (order m).pb) []) h)

    -- an accepted command's order is the same
    pub order_same : eqb (command_number (order m).command c.mode) 0 ≡ true → order n ≡ order m
    unfolding order_to order_of
    order_same e =
        let block = block_of s (is_second channel) in
        ap (λ (x : ℕ). record { command = command_of x; ccw = x; block = block; pb = parameter_block (command_of x) n block c.pp }) ccw-same
        ∙ ap (λ (x : ℕ). record { command = command_of (ccw_of m block); ccw = ccw_of m block; block = block; pb = x })
        (pb-same m n (order m).command (order m).block (order m).pb c.pp (read-after e))

    -- a refused one's is of the same block and command
    pub block_same : (order n).block ≡ (order m).block
    unfolding order_to order_of
    block_same = refl

    pub refused-same : eqb (command_number (order m).command c.mode) 0 ≡ false → eqb (command_number (order n).command c.mode) 0 ≡ false
    refused-same e = ap (λ (k : Command). eqb (command_number k c.mode) 0) command-same ∙ e

    -- so list and number are the same
    list_same : touched_by_attention s n channel ≡ touched_by_attention s m channel
    unfolding touched_by_attention
    list_same = go (eqb (command_number (order m).command c.mode) 0) refl
      where
        go : (b : Bool) → eqb (command_number (order m).command c.mode) 0 ≡ b → touched_by_order (order n) c.mode ≡ touched_by_order (order m) c.mode
        go true e = ap (λ (o : Order). touched_by_order o c.mode) (order_same e)
        go false e =
            refused-list (order n) c.mode (refused-same e)
            ∙ ap (λ (b : ℕ). span false b 1 ++ []) block_same
            ∙ sym (refused-list (order m) c.mode e)

    order-number : order_number n (order n) c.mode ≡ order_number m (order m) c.mode
    unfolding order_number order_stages
    order-number = go (eqb (command_number (order m).command c.mode) 0) refl
      where
        go : (b : Bool) → eqb (command_number (order m).command c.mode) 0 ≡ b → order_number n (order n) c.mode ≡ order_number m (order m) c.mode
        go true e =
            number_same m n l (order_stages (order n) c.mode)
            ∙ ap (λ (o : Order). stages_number m (order_stages o c.mode)) (order_same e)
        go false e =
            number_same m n l (order_stages (order n) c.mode)
            ∙ ap₂ (λ (b : ℕ) (k : Command). stages_number m (stage (span false b 1) (command_number k c.mode) ∷ stage (others (order n)) 0 ∷ [])) block_same command-same
            ∙ refused-number m (span false (order m).block 1) (command_number (order m).command c.mode) (stage (others (order n)) 0 ∷ []) (stage (others (order m)) 0 ∷ [])
            (eqb-false (command_number (order m).command c.mode) 0 e)

    number_is : attention_number s n channel ≡ attention_number s m channel
    unfolding attention_number given_to
    number_is = ap₂ (λ (g k : ℕ). first (first (unless (is_channel channel) 12) g) k) (given-same m n l s) order-number

    -- and so is what an accepted one makes of channel and memories
    channel-same : eqb (command_number (order m).command c.mode) 0 ≡ true → channel_attended s n (is_second channel) ≡ channel_attended s m (is_second channel)
    unfolding channel_attended channel_ordered
    channel-same e =
        ap (λ (o : Order). channel_ordered n o c) (order_same e)
        ∙ ap (λ (k : Channel). only_psw k (ordered (order m).ccw k.psw)) (commanded-same m n (order m).command (order m).block (order m).pb c (read-after e))

    memory-same : eqb (command_number (order m).command c.mode) 0 ≡ true
        → ordered_memory s n (is_second channel) ≡ stores_made n (command_stores (order m).command (order m).block (order m).pb c)
    unfolding ordered_memory
    memory-same e =
        ap (λ (o : Order). stored_memory o.command n o.block o.pb c) (order_same e)
        ∙ command-made (order m).command (order m).block (order m).pb c n

  -- ---- the attention

  -- what is answered and left, by the number
  answer_by : ℕ → Channel → ℕ × State
  answer_by k ch = pick (eqb k 0) (0, with_channel s (is_second channel) ch) (k, s)

  told-by : (k : ℕ) (ch : Channel) (o o' : Buffers) → outcome_parts (settled k s o (with_channel s (is_second channel) ch) o') ≡ answer_by k ch
  unfolding answer_by
  told-by k ch o o' = settled-told k s (with_channel s (is_second channel) ch) o o'

  -- an accepted one has a command that was accepted
  command-passed : eqb (attention_number s m channel) 0 ≡ true → eqb (command_number (order m).command c.mode) 0 ≡ true
  unfolding attention_number order_number stages_number order_stages
  command-passed e =
      eq-eqb (command_number (order m).command c.mode) 0
      (first-none-left _ _ (first-none-right _ _ (first-none-right _ _ (eqb-true (attention_number s m channel) 0 e))))

  told_same : (n : Buffers) → SameLengths m n → AgreeOn (read_in (order m) c.mode) m n → outcome_parts (attention_of s n channel) ≡ outcome_parts (attention_of s m channel)
  unfolding attention_of answer_by
  told_same n l h =
      told-by (attention_number s n channel) (channel_attended s n (is_second channel)) n (ordered_memory s n (is_second channel))
      ∙ ap (λ (k : ℕ). answer_by k (channel_attended s n (is_second channel))) (number_is n l h)
      ∙ go (eqb (attention_number s m channel) 0) refl
      ∙ sym (told-by (attention_number s m channel) (channel_attended s m (is_second channel)) m (ordered_memory s m (is_second channel)))
    where
      go : (b : Bool) → eqb (attention_number s m channel) 0 ≡ b
          → answer_by (attention_number s m channel) (channel_attended s n (is_second channel)) ≡ answer_by (attention_number s m channel) (channel_attended s m (is_second channel))
      go true e = ap (answer_by (attention_number s m channel)) (channel-same n l h (command-passed e))
      go false e = rw e

  left-same : (n : Buffers) → SameLengths m n → AgreeOn (read_in (order m) c.mode) m n
      → (attention_of s n channel).memory ≡ stores_made n (pick (eqb (attention_number s m channel) 0) (stored_in (order m) c) [])
  unfolding attention_of stored_in stores_made
  left-same n l h =
      settled-left (attention_number s n channel) s (with_channel s (is_second channel) (channel_attended s n (is_second channel))) n (ordered_memory s n (is_second channel))
      ∙ ap (λ (k : ℕ). pick (eqb k 0) (ordered_memory s n (is_second channel)) n) (number_is n l h)
      ∙ go (eqb (attention_number s m channel) 0) refl
    where
      go : (b : Bool) → eqb (attention_number s m channel) 0 ≡ b → pick b (ordered_memory s n (is_second channel)) n ≡ stores_made n (pick b (stored_in (order m) c) [])
      go true e = rw (command-passed e) (memory-same n l h (command-passed e))
      go false e = refl

  pub attention-traced : Traced (read_in (order m) c.mode) (written_in (order m) c.mode) (eqb (attention_number s m channel) 0) (λ n. touched_by_attention s n channel) (λ n. outcome_parts (attention_of s n channel)) (λ n. (attention_of s n channel).memory) m
  unfolding touched_by_attention
  attention-traced =
      record {
        stores = stored_in (order m) c;
        placed = stored-places (order m) c;
        split = read-and-stored (order m) c.mode;
        same = λ n l h. record { list = list_same n l h; told = told_same n l h; left = left-same n l h };
      }

  -- its list is complete
  pub attention-complete : AttentionComplete s channel m
  attention-complete = complete attention-traced
