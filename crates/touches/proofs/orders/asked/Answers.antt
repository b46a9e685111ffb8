-- `touches::orders::asked` meets its contract.
-- Assumes nothing.
use Rattle.attention_rules.specs.Touched.{read_by, stored_by}
use Rattle.ground_rules.specs.Places.{span}
use mathlib.Core.Path.{refl}
use Rattle.touches.proofs.orders.asked.Goals as goal

pub returns-in-Update : goal.returns-in-Update
unfolding read_by stored_by span
returns-in-Update c = λ block pb. simp (c.default-none.ensures.0, c.default-none.ensures.1.0, c.default-none.ensures.1.1.0, c.default-none.ensures.1.1.1, c.in-Update.is) (refl, refl)

pub returns-in-StartLocal : goal.returns-in-StartLocal
unfolding read_by stored_by span
returns-in-StartLocal c = λ block pb. simp (c.default-none.ensures.0, c.default-none.ensures.1.0, c.default-none.ensures.1.1.0, c.default-none.ensures.1.1.1, c.in-StartLocal.is) (refl, refl)

pub returns-in-StartSystem : goal.returns-in-StartSystem
unfolding read_by stored_by span
returns-in-StartSystem c = λ block pb. simp (c.default-none.ensures.0, c.default-none.ensures.1.0, c.default-none.ensures.1.1.0, c.default-none.ensures.1.1.1, c.in-StartSystem.is) (refl, refl)

pub returns-in-Suspend : goal.returns-in-Suspend
unfolding read_by stored_by span
returns-in-Suspend c = λ block pb. simp (c.default-none.ensures.0, c.default-none.ensures.1.0, c.default-none.ensures.1.1.0, c.default-none.ensures.1.1.1, c.in-Suspend.is) (refl, refl)

pub returns-in-Resume : goal.returns-in-Resume
unfolding read_by stored_by span
returns-in-Resume c = λ block pb. simp (c.default-none.ensures.0, c.default-none.ensures.1.0, c.default-none.ensures.1.1.0, c.default-none.ensures.1.1.1, c.in-Resume.is) (refl, refl)

pub returns-in-Halt : goal.returns-in-Halt
unfolding read_by stored_by span
returns-in-Halt c = λ block pb. simp (c.default-none.ensures.0, c.default-none.ensures.1.0, c.default-none.ensures.1.1.0, c.default-none.ensures.1.1.1, c.in-Halt.is) (refl, refl)

pub returns-in-Unknown : goal.returns-in-Unknown
unfolding read_by stored_by span
returns-in-Unknown c = λ block pb. simp (c.default-none.ensures.0, c.default-none.ensures.1.0, c.default-none.ensures.1.1.0, c.default-none.ensures.1.1.1, c.in-Unknown.is) (refl, refl)
