use Rattle.no_machine.specs.declared.did.Did.TheVariants as did
use Rattle.no_machine.proofs.Turns.{arm_means, arm_needs, at_inside, back_means, back_needs, back_slot, left_means, left_needs, plain_turned, ready}
use Rattle.no_machine.proofs.step.turn.Goals as goal

pub cell_at-cell-requires : goal.cell_at-cell-requires
cell_at-cell-requires g c = at_inside _ _ _ _ _ _ _ _ _ c.requires.facts _ _ _ _ _ _ _ c.requires.here.0 c.requires.here.1

pub act_at-requires-clause-ready : goal.act_at-requires-clause-ready
act_at-requires-clause-ready g c = ready _ _ _ _ _ _ _ _ _ c.requires.facts _ _ _ _ _ _ _ c.requires.here.0 c.requires.here.1 _ c.cell_at-cell.ensures

pub call-requires-clause-ready : goal.call-requires-clause-ready
call-requires-clause-ready g c = arm_needs _ _ _ _ _ _ _ _ _ c.requires.facts _ _ _ _ _ _ _ _ c.cell_at-cell.ensures _ _ _ c.act_at.ensures.below c.act_at.ensures.long c.requires.here.0 c.requires.here.1 _ _ _ _ c.in-Calls.ensures.acted

pub read_at-v-requires-clause-slot : goal.read_at-v-requires-clause-slot
read_at-v-requires-clause-slot g c = back_slot _ _ _ _ _ _ _ _ _ c.requires.facts _ _ _ _ _ _ _ _ c.cell_at-cell.ensures _ _ _ c.act_at.ensures.below c.act_at.ensures.long c.requires.here.0 c.requires.here.1 _ c.in-Returns.ensures.acted

pub back-requires : goal.back-requires
back-requires g c = back_needs _ _ _ _ _ _ _ _ _ c.requires.facts _ _ _ _ _ _ _ _ c.cell_at-cell.ensures _ _ _ c.act_at.ensures.below c.act_at.ensures.long c.requires.here.0 c.requires.here.1 _ c.in-Returns.ensures.acted

pub back-requires-in-Leaves : goal.back-requires-in-Leaves
back-requires-in-Leaves g c = left_needs _ _ _ _ _ _ _ _ _ c.requires.facts _ _ _ _ _ _ _ _ c.cell_at-cell.ensures _ _ _ c.act_at.ensures.below c.act_at.ensures.long c.requires.here.0 c.requires.here.1 c.in-Leaves.ensures.acted

pub returns-in-Next-clause-turned : goal.returns-in-Next-clause-turned
returns-in-Next-clause-turned g c = plain_turned _ _ _ _ _ _ _ _ _ c.requires.facts _ _ _ _ _ _ _ _ c.cell_at-cell.ensures _ _ _ c.act_at.ensures.below c.act_at.ensures.long did.Next tt c.in-Next.ensures.acted

pub returns-in-To-clause-turned : goal.returns-in-To-clause-turned
returns-in-To-clause-turned g c = plain_turned _ _ _ _ _ _ _ _ _ c.requires.facts _ _ _ _ _ _ _ _ c.cell_at-cell.ensures _ _ _ c.act_at.ensures.below c.act_at.ensures.long (did.To c.in-To.target) tt c.in-To.ensures.acted

pub returns-in-Trapped-clause-turned : goal.returns-in-Trapped-clause-turned
returns-in-Trapped-clause-turned g c = plain_turned _ _ _ _ _ _ _ _ _ c.requires.facts _ _ _ _ _ _ _ _ c.cell_at-cell.ensures _ _ _ c.act_at.ensures.below c.act_at.ensures.long (did.Trapped c.in-Trapped.trap) tt c.in-Trapped.ensures.acted

pub returns-in-WantPage-clause-turned : goal.returns-in-WantPage-clause-turned
returns-in-WantPage-clause-turned g c = plain_turned _ _ _ _ _ _ _ _ _ c.requires.facts _ _ _ _ _ _ _ _ c.cell_at-cell.ensures _ _ _ c.act_at.ensures.below c.act_at.ensures.long (did.WantPage c.in-WantPage.page) tt c.in-WantPage.ensures.acted

pub returns-in-NoMemory-clause-turned : goal.returns-in-NoMemory-clause-turned
returns-in-NoMemory-clause-turned g c = plain_turned _ _ _ _ _ _ _ _ _ c.requires.facts _ _ _ _ _ _ _ _ c.cell_at-cell.ensures _ _ _ c.act_at.ensures.below c.act_at.ensures.long did.NoMemory tt c.in-NoMemory.ensures.acted

pub returns-in-CallsAt-clause-turned : goal.returns-in-CallsAt-clause-turned
returns-in-CallsAt-clause-turned g c = plain_turned _ _ _ _ _ _ _ _ _ c.requires.facts _ _ _ _ _ _ _ _ c.cell_at-cell.ensures _ _ _ c.act_at.ensures.below c.act_at.ensures.long (did.CallsAt _ _ _) tt c.in-CallsAt.ensures.acted

pub returns-in-Calls-clause-turned : goal.returns-in-Calls-clause-turned
returns-in-Calls-clause-turned g c = λ s here. arm_means _ _ _ _ _ _ _ _ _ c.requires.facts _ _ _ _ _ _ _ _ c.cell_at-cell.ensures _ _ _ c.act_at.ensures.below c.act_at.ensures.long s here _ _ _ _ c.in-Calls.ensures.acted _ _ _ _ c.call.ensures

pub returns-in-Returns-clause-turned : goal.returns-in-Returns-clause-turned
returns-in-Returns-clause-turned g c = λ s here. back_means _ _ _ _ _ _ _ _ _ c.requires.facts _ _ _ _ _ _ _ _ c.cell_at-cell.ensures _ _ _ c.act_at.ensures.below c.act_at.ensures.long s here _ c.in-Returns.ensures.acted _ c.read_at-v.ensures _ _ _ _ c.back.ensures

pub returns-in-Leaves-clause-turned : goal.returns-in-Leaves-clause-turned
returns-in-Leaves-clause-turned g c = λ s here. left_means _ _ _ _ _ _ _ _ _ c.requires.facts _ _ _ _ _ _ _ _ c.cell_at-cell.ensures _ _ _ c.act_at.ensures.below c.act_at.ensures.long s here c.in-Leaves.ensures.acted _ _ _ _ c.back-in-Leaves.ensures
