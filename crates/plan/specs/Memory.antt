-- A plan in memory.
use Rattle.plan.specs.Plans.{Plan, plan}
use Rattle.plan.specs.declared.memory.PlanBytes.{PlanBytes}

-- what is left of it to read
abbrev pub left_in : PlanBytes → Plan
left_in b = plan b.sheet.now b.step.now b.pairs.now
