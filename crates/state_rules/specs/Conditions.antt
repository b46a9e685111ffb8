-- When 17 is given, the checks of a call in their order, and which states and bytes the two functions between them are inverse on (§11).
use Rattle.std.specs.Prelude.{List, [], ◌∷◌, ◌⊎◌, ◌≡◌, ℕ, ◌<◌, ◌≤◌, length, get_or}
use Rattle.ground_rules.specs.Buffers.{Buffers}
use Rattle.ground_rules.specs.declared.Pointer.{Pointer}
use Rattle.ground_rules.specs.Conditions.{Check, check}
use Rattle.ground_rules.specs.Holdings.{held_number}
use Rattle.ground_rules.specs.declared.Channel.{Channel}
use Rattle.ground_rules.specs.declared.State.{State}
use Rattle.attention_rules.specs.Conditions.{attention_checks as attention_checks}
use Rattle.attention_rules.specs.PowerConditions.{power_checks}
use Rattle.turn_rules.specs.Conditions.{step_checks as step_checks}
use Rattle.sweep_rules.specs.Conditions.{sweep_checks}
use Rattle.state_rules.specs.Tables.{NoneBy}
use Rattle.state_rules.specs.Layout.{state_rows, state_in, state_length}

-- 17: another length, or a part of the table is out of its range: the version, a flag, the mode, a field of CC or the held number
abbrev pub NoState : List ℕ → Type 0
NoState b = ¬ (length b ≡ state_length) ⊎ NoneBy state_rows b 0 0

-- the checks of a fresh state, which asks only for the length (§11.2)
abbrev pub fresh_checks_on : List ℕ → ℕ → List Check
fresh_checks_on b cp = check 17 (¬ (length b ≡ state_length)) ∷ check 10 (1048576 ≤ cp) ∷ []

-- the check of a reset, which asks for nothing else (§11.2)
abbrev pub reset_checks_on : List ℕ → List Check
reset_checks_on b = check 17 (¬ (length b ≡ state_length)) ∷ []

-- the checks of a power-up, which asks for the length alone too: 17 comes before all others (§11.2)
abbrev pub power_checks_on : List ℕ → Buffers → List Check
power_checks_on b m = check 17 (¬ (length b ≡ state_length)) ∷ power_checks m

-- the checks of an attention, which asks for a state (§11.2)
abbrev pub attention_checks_on : List ℕ → Buffers → ℕ → List Check
attention_checks_on b m channel = check 17 (NoState b) ∷ attention_checks (state_in b) m channel

-- the checks of a step likewise
abbrev pub step_checks_on : List ℕ → Buffers → ℕ → List Check
step_checks_on b m lines = check 17 (NoState b) ∷ step_checks (state_in b) m lines

-- the checks of a sweep likewise
abbrev pub sweep_checks_on : List ℕ → Buffers → ℕ → ℕ → List Check
sweep_checks_on b m channel lines = check 17 (NoState b) ∷ sweep_checks (state_in b) m channel lines

-- every element is a byte
abbrev pub Bytes : List ℕ → Type 0
Bytes b = (i : ℕ) → get_or b i 0 < 256

-- an address has the width that its type gives it
abbrev pub PointerFits : Pointer → Type 0
PointerFits p = p.address < 4294967296

-- every register of a channel does
pub record ChannelFits (c : Channel) : Type 0 where
  pub ga : PointerFits c.ga
  pub gb : PointerFits c.gb
  pub gc : PointerFits c.gc
  pub tp : PointerFits c.tp
  pub pp : c.pp < 4294967296
  pub bc : c.bc < 65536
  pub ix : c.ix < 65536
  pub cc : c.cc < 65536
  pub mc : c.mc < 65536
  pub psw : c.psw < 256
  pub held : held_number c.held < 512

-- and every one of a state
pub record StateFits (s : State) : Type 0 where
  pub first : ChannelFits s.first
  pub second : ChannelFits s.second
  pub cp : s.cp < 4294967296
