-- `script_text::buffers::digest_byte` meets its contract.
-- Assumes nothing.
use lib.Bits.{xor_lt}
use mathlib.Core.Path.{refl}
use native.Mathlib.Omega.{arith}
use Rattle.script_text.specs.Buffers.{digest_byte}
use Rattle.script_text.proofs.buffers.digest_byte.Goals as goal

pub overflow_cast-result : goal.overflow_cast-result
overflow_cast-result c = omega (arith, xor_lt 32 c.args.d c.args.b (omega arith) (omega arith))

pub overflow_mul-result : goal.overflow_mul-result
overflow_mul-result c = omega (arith, xor_lt 32 c.args.d c.args.b (omega arith) (omega arith))

pub returns : goal.returns
unfolding digest_byte
returns c = refl
