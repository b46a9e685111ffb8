-- `assembler_forms::table::codes_of` meets its contract.
-- Assumes nothing.
use borrow.Author.Tests.{ne_eqb}
use Rattle.listing_rules.specs.Entries.{entries}
use Rattle.assembler_forms.specs.Table.{packed_word, kinds_code, entry_code, codes_by}
use Rattle.assembler_forms.proofs.table.codes_of.Goals as goal

pub returns-in-22040398 : goal.returns-in-22040398
unfolding codes_by entries packed_word entry_code kinds_code
returns-in-22040398 c = rw c.in-22040398.is

pub returns-in-1453113362771 : goal.returns-in-1453113362771
unfolding codes_by entries packed_word entry_code kinds_code
returns-in-1453113362771 c = rw c.in-1453113362771.is

pub returns-in-5675239000 : goal.returns-in-5675239000
unfolding codes_by entries packed_word entry_code kinds_code
returns-in-5675239000 c = rw c.in-5675239000.is

pub returns-in-21252439 : goal.returns-in-21252439
unfolding codes_by entries packed_word entry_code kinds_code
returns-in-21252439 c = rw c.in-21252439.is

pub returns-in-22301768 : goal.returns-in-22301768
unfolding codes_by entries packed_word entry_code kinds_code
returns-in-22301768 c = rw c.in-22301768.is

pub returns-in-5524181068 : goal.returns-in-5524181068
unfolding codes_by entries packed_word entry_code kinds_code
returns-in-5524181068 c = rw c.in-5524181068.is

pub returns-in-21254220 : goal.returns-in-21254220
unfolding codes_by entries packed_word entry_code kinds_code
returns-in-21254220 c = rw c.in-21254220.is

pub returns-in-5642800973 : goal.returns-in-5642800973
unfolding codes_by entries packed_word entry_code kinds_code
returns-in-5642800973 c = rw c.in-5642800973.is

pub returns-in-22433613 : goal.returns-in-22433613
unfolding codes_by entries packed_word entry_code kinds_code
returns-in-22433613 c = rw c.in-22433613.is

pub returns-in-5407919949 : goal.returns-in-5407919949
unfolding codes_by entries packed_word entry_code kinds_code
returns-in-5407919949 c = rw c.in-5407919949.is

pub returns-in-5525360461 : goal.returns-in-5525360461
unfolding codes_by entries packed_word entry_code kinds_code
returns-in-5525360461 c = rw c.in-5525360461.is

pub returns-in-1414157193037 : goal.returns-in-1414157193037
unfolding codes_by entries packed_word entry_code kinds_code
returns-in-1414157193037 c = rw c.in-1414157193037.is

pub returns-in-21251137 : goal.returns-in-21251137
unfolding codes_by entries packed_word entry_code kinds_code
returns-in-21251137 c = rw c.in-21251137.is

pub returns-in-5524177985 : goal.returns-in-5524177985
unfolding codes_by entries packed_word entry_code kinds_code
returns-in-5524177985 c = rw c.in-5524177985.is

pub returns-in-5406737473 : goal.returns-in-5406737473
unfolding codes_by entries packed_word entry_code kinds_code
returns-in-5406737473 c = rw c.in-5406737473.is

pub returns-in-1414156010561 : goal.returns-in-1414156010561
unfolding codes_by entries packed_word entry_code kinds_code
returns-in-1414156010561 c = rw c.in-1414156010561.is

pub returns-in-86607 : goal.returns-in-86607
unfolding codes_by entries packed_word entry_code kinds_code
returns-in-86607 c = rw c.in-86607.is

pub returns-in-21582415 : goal.returns-in-21582415
unfolding codes_by entries packed_word entry_code kinds_code
returns-in-21582415 c = rw c.in-21582415.is

pub returns-in-21123663 : goal.returns-in-21123663
unfolding codes_by entries packed_word entry_code kinds_code
returns-in-21123663 c = rw c.in-21123663.is

pub returns-in-5524050511 : goal.returns-in-5524050511
unfolding codes_by entries packed_word entry_code kinds_code
returns-in-5524050511 c = rw c.in-5524050511.is

pub returns-in-21253697 : goal.returns-in-21253697
unfolding codes_by entries packed_word entry_code kinds_code
returns-in-21253697 c = rw c.in-21253697.is

pub returns-in-5524180545 : goal.returns-in-5524180545
unfolding codes_by entries packed_word entry_code kinds_code
returns-in-5524180545 c = rw c.in-5524180545.is

pub returns-in-5406740033 : goal.returns-in-5406740033
unfolding codes_by entries packed_word entry_code kinds_code
returns-in-5406740033 c = rw c.in-5406740033.is

pub returns-in-1414156013121 : goal.returns-in-1414156013121
unfolding codes_by entries packed_word entry_code kinds_code
returns-in-1414156013121 c = rw c.in-1414156013121.is

pub returns-in-22302542 : goal.returns-in-22302542
unfolding codes_by entries packed_word entry_code kinds_code
returns-in-22302542 c = rw c.in-22302542.is

pub returns-in-21188169 : goal.returns-in-21188169
unfolding codes_by entries packed_word entry_code kinds_code
returns-in-21188169 c = rw c.in-21188169.is

pub returns-in-21185860 : goal.returns-in-21185860
unfolding codes_by entries packed_word entry_code kinds_code
returns-in-21185860 c = rw c.in-21185860.is

pub returns-in-5407788878 : goal.returns-in-5407788878
unfolding codes_by entries packed_word entry_code kinds_code
returns-in-5407788878 c = rw c.in-5407788878.is

pub returns-in-5406674505 : goal.returns-in-5406674505
unfolding codes_by entries packed_word entry_code kinds_code
returns-in-5406674505 c = rw c.in-5406674505.is

pub returns-in-5406672196 : goal.returns-in-5406672196
unfolding codes_by entries packed_word entry_code kinds_code
returns-in-5406672196 c = rw c.in-5406672196.is

pub returns-in-22039882 : goal.returns-in-22039882
unfolding codes_by entries packed_word entry_code kinds_code
returns-in-22039882 c = rw c.in-22039882.is

pub returns-in-88650 : goal.returns-in-88650
unfolding codes_by entries packed_word entry_code kinds_code
returns-in-88650 c = rw c.in-88650.is

pub returns-in-22695498 : goal.returns-in-22695498
unfolding codes_by entries packed_word entry_code kinds_code
returns-in-22695498 c = rw c.in-22695498.is

pub returns-in-21125706 : goal.returns-in-21125706
unfolding codes_by entries packed_word entry_code kinds_code
returns-in-21125706 c = rw c.in-21125706.is

pub returns-in-5408181834 : goal.returns-in-5408181834
unfolding codes_by entries packed_word entry_code kinds_code
returns-in-5408181834 c = rw c.in-5408181834.is

pub returns-in-5457005898 : goal.returns-in-5457005898
unfolding codes_by entries packed_word entry_code kinds_code
returns-in-5457005898 c = rw c.in-5457005898.is

pub returns-in-1397177404746 : goal.returns-in-1397177404746
unfolding codes_by entries packed_word entry_code kinds_code
returns-in-1397177404746 c = rw c.in-1397177404746.is

pub returns-in-5575033155 : goal.returns-in-5575033155
unfolding codes_by entries packed_word entry_code kinds_code
returns-in-5575033155 c = rw c.in-5575033155.is

pub returns-in-22299210 : goal.returns-in-22299210
unfolding codes_by entries packed_word entry_code kinds_code
returns-in-22299210 c = rw c.in-22299210.is

pub returns-in-5708598858 : goal.returns-in-5708598858
unfolding codes_by entries packed_word entry_code kinds_code
returns-in-5708598858 c = rw c.in-5708598858.is

pub returns-in-5642209868 : goal.returns-in-5642209868
unfolding codes_by entries packed_word entry_code kinds_code
returns-in-5642209868 c = rw c.in-5642209868.is

pub returns-in-22694476 : goal.returns-in-22694476
unfolding codes_by entries packed_word entry_code kinds_code
returns-in-22694476 c = rw c.in-22694476.is

pub returns-in-5810047564 : goal.returns-in-5810047564
unfolding codes_by entries packed_word entry_code kinds_code
returns-in-5810047564 c = rw c.in-5810047564.is

pub returns-in-5408180812 : goal.returns-in-5408180812
unfolding codes_by entries packed_word entry_code kinds_code
returns-in-5408180812 c = rw c.in-5408180812.is

pub returns-in-1384494549580 : goal.returns-in-1384494549580
unfolding codes_by entries packed_word entry_code kinds_code
returns-in-1384494549580 c = rw c.in-1384494549580.is

pub returns-in-1396993509964 : goal.returns-in-1396993509964
unfolding codes_by entries packed_word entry_code kinds_code
returns-in-1396993509964 c = rw c.in-1396993509964.is

pub returns-in-357677415615052 : goal.returns-in-357677415615052
unfolding codes_by entries packed_word entry_code kinds_code
returns-in-357677415615052 c = rw c.in-357677415615052.is

pub returns-in-1427208487756 : goal.returns-in-1427208487756
unfolding codes_by entries packed_word entry_code kinds_code
returns-in-1427208487756 c = rw c.in-1427208487756.is

pub returns-in-5708597836 : goal.returns-in-5708597836
unfolding codes_by entries packed_word entry_code kinds_code
returns-in-5708597836 c = rw c.in-5708597836.is

pub returns-in-1461401307724 : goal.returns-in-1461401307724
unfolding codes_by entries packed_word entry_code kinds_code
returns-in-1461401307724 c = rw c.in-1461401307724.is

pub returns-in-21779284 : goal.returns-in-21779284
unfolding codes_by entries packed_word entry_code kinds_code
returns-in-21779284 c = rw c.in-21779284.is

pub returns-in-5407786323 : goal.returns-in-5407786323
unfolding codes_by entries packed_word entry_code kinds_code
returns-in-5407786323 c = rw c.in-5407786323.is

pub returns-in-22170691 : goal.returns-in-22170691
unfolding codes_by entries packed_word entry_code kinds_code
returns-in-22170691 c = rw c.in-22170691.is

pub returns-in_default : goal.returns-in_default
unfolding codes_by entries packed_word entry_code kinds_code
returns-in_default c = let r = c.in_default.in_default-own.rest in simp (ne_eqb _ _ r.1, ne_eqb _ _ r.0.1, ne_eqb _ _ r.0.0.1, ne_eqb _ _ r.0.0.0.1, ne_eqb _ _ r.0.0.0.0.1, ne_eqb _ _ r.0.0.0.0.0.1, ne_eqb _ _ r.0.0.0.0.0.0.1, ne_eqb _ _ r.0.0.0.0.0.0.0.1, ne_eqb _ _ r.0.0.0.0.0.0.0.0.1, ne_eqb _ _ r.0.0.0.0.0.0.0.0.0.1, ne_eqb _ _ r.0.0.0.0.0.0.0.0.0.0.1, ne_eqb _ _ r.0.0.0.0.0.0.0.0.0.0.0.1, ne_eqb _ _ r.0.0.0.0.0.0.0.0.0.0.0.0.1, ne_eqb _ _ r.0.0.0.0.0.0.0.0.0.0.0.0.0.1, ne_eqb _ _ r.0.0.0.0.0.0.0.0.0.0.0.0.0.0.1, ne_eqb _ _ r.0.0.0.0.0.0.0.0.0.0.0.0.0.0.0.1, ne_eqb _ _ r.0.0.0.0.0.0.0.0.0.0.0.0.0.0.0.0.1, ne_eqb _ _ r.0.0.0.0.0.0.0.0.0.0.0.0.0.0.0.0.0.1, ne_eqb _ _ r.0.0.0.0.0.0.0.0.0.0.0.0.0.0.0.0.0.0.1, ne_eqb _ _ r.0.0.0.0.0.0.0.0.0.0.0.0.0.0.0.0.0.0.0.1, ne_eqb _ _ r.0.0.0.0.0.0.0.0.0.0.0.0.0.0.0.0.0.0.0.0.1, ne_eqb _ _ r.0.0.0.0.0.0.0.0.0.0.0.0.0.0.0.0.0.0.0.0.0.1, ne_eqb _ _ r.0.0.0.0.0.0.0.0.0.0.0.0.0.0.0.0.0.0.0.0.0.0.1, ne_eqb _ _ r.0.0.0.0.0.0.0.0.0.0.0.0.0.0.0.0.0.0.0.0.0.0.0.1, ne_eqb _ _ r.0.0.0.0.0.0.0.0.0.0.0.0.0.0.0.0.0.0.0.0.0.0.0.0.1, ne_eqb _ _ r.0.0.0.0.0.0.0.0.0.0.0.0.0.0.0.0.0.0.0.0.0.0.0.0.0.1, ne_eqb _ _ r.0.0.0.0.0.0.0.0.0.0.0.0.0.0.0.0.0.0.0.0.0.0.0.0.0.0.1, ne_eqb _ _ r.0.0.0.0.0.0.0.0.0.0.0.0.0.0.0.0.0.0.0.0.0.0.0.0.0.0.0.1, ne_eqb _ _ r.0.0.0.0.0.0.0.0.0.0.0.0.0.0.0.0.0.0.0.0.0.0.0.0.0.0.0.0.1, ne_eqb _ _ r.0.0.0.0.0.0.0.0.0.0.0.0.0.0.0.0.0.0.0.0.0.0.0.0.0.0.0.0.0.1, ne_eqb _ _ r.0.0.0.0.0.0.0.0.0.0.0.0.0.0.0.0.0.0.0.0.0.0.0.0.0.0.0.0.0.0.1, ne_eqb _ _ r.0.0.0.0.0.0.0.0.0.0.0.0.0.0.0.0.0.0.0.0.0.0.0.0.0.0.0.0.0.0.0.1, ne_eqb _ _ r.0.0.0.0.0.0.0.0.0.0.0.0.0.0.0.0.0.0.0.0.0.0.0.0.0.0.0.0.0.0.0.0.1, ne_eqb _ _ r.0.0.0.0.0.0.0.0.0.0.0.0.0.0.0.0.0.0.0.0.0.0.0.0.0.0.0.0.0.0.0.0.0.1, ne_eqb _ _ r.0.0.0.0.0.0.0.0.0.0.0.0.0.0.0.0.0.0.0.0.0.0.0.0.0.0.0.0.0.0.0.0.0.0.1, ne_eqb _ _ r.0.0.0.0.0.0.0.0.0.0.0.0.0.0.0.0.0.0.0.0.0.0.0.0.0.0.0.0.0.0.0.0.0.0.0.1, ne_eqb _ _ r.0.0.0.0.0.0.0.0.0.0.0.0.0.0.0.0.0.0.0.0.0.0.0.0.0.0.0.0.0.0.0.0.0.0.0.0.1, ne_eqb _ _ r.0.0.0.0.0.0.0.0.0.0.0.0.0.0.0.0.0.0.0.0.0.0.0.0.0.0.0.0.0.0.0.0.0.0.0.0.0.1, ne_eqb _ _ r.0.0.0.0.0.0.0.0.0.0.0.0.0.0.0.0.0.0.0.0.0.0.0.0.0.0.0.0.0.0.0.0.0.0.0.0.0.0.1, ne_eqb _ _ r.0.0.0.0.0.0.0.0.0.0.0.0.0.0.0.0.0.0.0.0.0.0.0.0.0.0.0.0.0.0.0.0.0.0.0.0.0.0.0.1, ne_eqb _ _ r.0.0.0.0.0.0.0.0.0.0.0.0.0.0.0.0.0.0.0.0.0.0.0.0.0.0.0.0.0.0.0.0.0.0.0.0.0.0.0.0.1, ne_eqb _ _ r.0.0.0.0.0.0.0.0.0.0.0.0.0.0.0.0.0.0.0.0.0.0.0.0.0.0.0.0.0.0.0.0.0.0.0.0.0.0.0.0.0.1, ne_eqb _ _ r.0.0.0.0.0.0.0.0.0.0.0.0.0.0.0.0.0.0.0.0.0.0.0.0.0.0.0.0.0.0.0.0.0.0.0.0.0.0.0.0.0.0.1, ne_eqb _ _ r.0.0.0.0.0.0.0.0.0.0.0.0.0.0.0.0.0.0.0.0.0.0.0.0.0.0.0.0.0.0.0.0.0.0.0.0.0.0.0.0.0.0.0.1, ne_eqb _ _ r.0.0.0.0.0.0.0.0.0.0.0.0.0.0.0.0.0.0.0.0.0.0.0.0.0.0.0.0.0.0.0.0.0.0.0.0.0.0.0.0.0.0.0.0.1, ne_eqb _ _ r.0.0.0.0.0.0.0.0.0.0.0.0.0.0.0.0.0.0.0.0.0.0.0.0.0.0.0.0.0.0.0.0.0.0.0.0.0.0.0.0.0.0.0.0.0.1, ne_eqb _ _ r.0.0.0.0.0.0.0.0.0.0.0.0.0.0.0.0.0.0.0.0.0.0.0.0.0.0.0.0.0.0.0.0.0.0.0.0.0.0.0.0.0.0.0.0.0.0.1, ne_eqb _ _ r.0.0.0.0.0.0.0.0.0.0.0.0.0.0.0.0.0.0.0.0.0.0.0.0.0.0.0.0.0.0.0.0.0.0.0.0.0.0.0.0.0.0.0.0.0.0.0.1, ne_eqb _ _ r.0.0.0.0.0.0.0.0.0.0.0.0.0.0.0.0.0.0.0.0.0.0.0.0.0.0.0.0.0.0.0.0.0.0.0.0.0.0.0.0.0.0.0.0.0.0.0.0.1, ne_eqb _ _ r.0.0.0.0.0.0.0.0.0.0.0.0.0.0.0.0.0.0.0.0.0.0.0.0.0.0.0.0.0.0.0.0.0.0.0.0.0.0.0.0.0.0.0.0.0.0.0.0.0.1, ne_eqb _ _ r.0.0.0.0.0.0.0.0.0.0.0.0.0.0.0.0.0.0.0.0.0.0.0.0.0.0.0.0.0.0.0.0.0.0.0.0.0.0.0.0.0.0.0.0.0.0.0.0.0.0.1, ne_eqb _ _ r.0.0.0.0.0.0.0.0.0.0.0.0.0.0.0.0.0.0.0.0.0.0.0.0.0.0.0.0.0.0.0.0.0.0.0.0.0.0.0.0.0.0.0.0.0.0.0.0.0.0.0.1, ne_eqb _ _ r.0.0.0.0.0.0.0.0.0.0.0.0.0.0.0.0.0.0.0.0.0.0.0.0.0.0.0.0.0.0.0.0.0.0.0.0.0.0.0.0.0.0.0.0.0.0.0.0.0.0.0.0.1)
