-- `assembler::assembly::assemble_with` meets its contract.
-- Assumes nothing.
use mathlib.Core.Path.{◌∙◌}
use Rattle.assembler.proofs.WalkLaws.{text-refused, text-room, text-bytes, text-done}
use Rattle.assembler.proofs.assembly.assemble_with.Goals as goal

pub store-requires : goal.store-requires
store-requires c = let a = c.args in let all = c.labels-count.ensures.result_after in (text-room a.text.now a.code.now a.first _ all c.in-Ok.ensures, text-bytes a.text.now a.code.now a.first _ all c.in-Ok.ensures)

pub returns-in-Ok-clause-value : goal.returns-in-Ok-clause-value
returns-in-Ok-clause-value c = let a = c.args in c.word.ensures ∙ (text-done a.text.now a.code.now a.first _ c.labels-count.ensures.result_after c.in-Ok.ensures _ _ c.store.ensures.value c.store.ensures.code_after).0

pub returns-in-Ok-clause-code_after : goal.returns-in-Ok-clause-code_after
returns-in-Ok-clause-code_after c = let a = c.args in (text-done a.text.now a.code.now a.first _ c.labels-count.ensures.result_after c.in-Ok.ensures _ _ c.store.ensures.value c.store.ensures.code_after).1

pub returns-in-Err-clause-value : goal.returns-in-Err-clause-value
returns-in-Err-clause-value c = let a = c.args in c.word-in-Err.ensures ∙ rw c.number.ensures (text-refused a.text.now a.code.now a.first _ c.labels-count.ensures.result_after c.in-Err.refused c.in-Err.ensures c.line_behind.result c.line_behind.ensures).0

pub returns-in-Err-clause-code_after : goal.returns-in-Err-clause-code_after
returns-in-Err-clause-code_after c = let a = c.args in (text-refused a.text.now a.code.now a.first _ c.labels-count.ensures.result_after c.in-Err.refused c.in-Err.ensures c.line_behind.result c.line_behind.ensures).1
