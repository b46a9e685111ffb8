-- The sheet of instructions whose result goes into a register, and of those that jump on a register (§6.12 to §6.14, §6.16), one statement a family.
use Rattle.std.specs.Prelude.{Bool, true, false, [], ◌∷◌, ◌≡◌, ℕ, ◌+◌, ◌%◌, ◌<◌, eqb, get_or}
use Rattle.ground_rules.specs.Choice.{pick}
use Rattle.ground_rules.specs.Buffers.{Buffers}
use Rattle.ground_rules.specs.States.{channel_of}
use Rattle.ground_rules.specs.declared.Channel.{Channel}
use Rattle.ground_rules.specs.declared.State.{State}
use Rattle.turn_rules.specs.Step.{step_of}
use Rattle.promises.specs.SheetWords.{far_in, stored_in, stored_tag_in, tags_of, tag_in, pointing, set_value, set_tag}
use Rattle.promises_sheet.specs.SheetOperands.{PairRan, ran_channel, base_tag, operand_address, offset_bytes, grown_by, operand_in, dd_of, displacement_in, whether, works_of, singles_of, registers_at, past_by, jumped_by, value_past, RegistersLeft}

module _ (second : Bool) (s : State) (m : Buffers) (lines : ℕ) where
  -- the channel before
  abbrev was : Channel
  was = channel_of s second

  -- register r gets a value and a tag, TP is past n bytes, IX is as given, and no byte changes
  abbrev pub Loads : ℕ → ℕ → Bool → ℕ → ℕ → Type 0
  Loads r v tag n ix =
      RegistersLeft was (ran_channel second s m lines)
      (set_value (registers_at was (past_by was n) ix) r v) (set_tag (tags_of was) r tag)
      × ((step_of s m lines).memory ≡ m)

  -- TP is as given, IX too, and no other register nor any byte changes
  abbrev pub Goes : ℕ → ℕ → Type 0
  Goes tp ix =
      RegistersLeft was (ran_channel second s m lines) (registers_at was tp ix) (tags_of was)
      × ((step_of s m lines).memory ≡ m)

  -- a done instruction of a channel
  pub record RegisterSheet : Type 0 where
    -- LPD P,M: the doubleword pointer at the operand, tag 0, IX by 4
    pub lpd : (r aa mm : ℕ) → pointing r ≡ true → PairRan second s m lines r 0 aa 1 0x22 mm
        → Loads r (far_in m (base_tag was mm) (operand_address m was mm aa)) false
        (2 + offset_bytes aa) (grown_by was.ix aa 4)
    -- LPDI P,I: that of the four bytes behind the pair
    pub lpdi : (r : ℕ) → pointing r ≡ true → PairRan second s m lines r 2 0 1 0x02 0
        → Loads r (far_in m was.tp.tag (was.tp.address + 2)) false 6 was.ix
    -- MOVP P,M: the stored pointer with its tag, IX by 3
    pub movp : (r aa mm : ℕ) → pointing r ≡ true → PairRan second s m lines r 0 aa 1 0x23 mm
        → Loads r (stored_in m (base_tag was mm) (operand_address m was mm aa))
        (stored_tag_in m (base_tag was mm) (operand_address m was mm aa))
        (2 + offset_bytes aa) (grown_by was.ix aa 3)
    -- MOV R,M: the byte or word by its sign, tag 1, IX by its size; any register
    pub move_memory : (r aa w mm : ℕ) → PairRan second s m lines r 0 aa w 0x20 mm
        → Loads r (operand_in m (base_tag was mm) (operand_address m was mm aa) w) true
        (2 + offset_bytes aa) (grown_by was.ix aa (w + 1))
    -- ADD, OR, AND, NOT R,M: the register is read before IX grows, its tag stays; any register but CC
    pub work_memory : (k r aa w mm : ℕ) → k < 4 → eqb r 6 ≡ false → PairRan second s m lines r 0 aa w (0x28 + k) mm
        → Loads r
        (get_or (works_of (value_past was (2 + offset_bytes aa) r) (operand_in m (base_tag was mm) (operand_address m was mm aa) w)) (1 + k) 0)
        (tag_in was r) (2 + offset_bytes aa) (grown_by was.ix aa (w + 1))
    -- MOVI R,I: the data behind the pair, tag 1
    pub move_data : (r w : ℕ) → PairRan second s m lines r (w + 1) 0 w 0x0C 0
        → Loads r (operand_in m was.tp.tag (was.tp.address + 2) w) true (3 + w) was.ix
    -- ADDI, ORI, ANDI R,I: the tag stays
    pub work_data : (k r w : ℕ) → k < 3 → eqb r 6 ≡ false → PairRan second s m lines r (w + 1) 0 w (0x08 + k) 0
        → Loads r
        (get_or (works_of (value_past was (3 + w) r) (operand_in m was.tp.tag (was.tp.address + 2) w)) (1 + k) 0)
        (tag_in was r) (3 + w) was.ix
    -- NOT, INC, DEC R
    pub alone : (k r : ℕ) → k < 3 → eqb r 6 ≡ false → PairRan second s m lines r 0 0 0 (get_or (0x0B ∷ 0x0E ∷ 0x0F ∷ []) k 0) 0
        → Loads r (get_or (singles_of (value_past was 2 r)) k 0) (tag_in was r) 2 was.ix
    -- JZ R and JNZ R: the low 16 bits of the register decide
    pub jump : (zero two : Bool) (r : ℕ) → eqb r 6 ≡ false → PairRan second s m lines r (dd_of two) 0 0 (pick zero 0x11 0x10) 0
        → Goes
        (pick (whether zero (eqb (value_past was (2 + dd_of two) r % 65536) 0))
        (jumped_by was (2 + dd_of two) (displacement_in m was 2 two))
        (past_by was (2 + dd_of two)))
        was.ix
