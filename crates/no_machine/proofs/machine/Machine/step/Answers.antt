use Rattle.std.proofs.Common.{rules, ◌≡◌, None, subst, sym}
use Rattle.no_layout.specs.Memory.{IsPage}
use Rattle.no_layout.specs.declared.memory.Regions.{Regions}
use Rattle.no_machine.specs.Ran.{end_of, program_of}
use Rattle.no_machine.proofs.Stepping.{step_inside}
use Rattle.no_machine.proofs.machine.Machine.step.Goals as goal

pub returns-clause-inside : goal.returns-clause-inside
returns-clause-inside g c = λ page is.
    let running : end_of c.args.self.now ≡ None = search rules in
    let at = c.requires.at running in
    subst (λ (r : Regions). IsPage r page) (sym c.take_row-told.ensures.stays.same_regions)
    (step_inside g.M.Memory.byte g.M.Memory.held (program_of g.M.Memory.regions c.args.sound.now c.args.self.now) c.take_row-told.result page c.args.self.now c.take_row-told.new.self c.args.env.now c.take_row-told.new.env at.1 at.0 c.blocks-blocks.ensures.live (c.take_row-told.ensures.takes at.1 at.0 at.2) is)
