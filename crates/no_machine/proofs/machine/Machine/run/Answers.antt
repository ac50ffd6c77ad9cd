use Rattle.std.proofs.Common.{rules, ◌≡◌, None, subst, sym}
use Rattle.no_layout.specs.Memory.{IsPage}
use Rattle.no_layout.specs.declared.memory.Regions.{Regions}
use Rattle.no_machine.specs.Ran.{end_of, program_of}
use Rattle.no_machine.proofs.Slicing.{wanted_inside}
use Rattle.no_machine.proofs.machine.Machine.run.Goals as goal

pub returns-clause-inside : goal.returns-clause-inside
returns-clause-inside g c = λ page is.
    let running : end_of c.args.self.now ≡ None = search rules in
    let at = c.requires.at running in
    subst (λ (r : Regions). IsPage r page) (sym c.go_on-told.ensures.stays.same_regions)
    (wanted_inside g.M.Memory.byte g.M.Memory.held (program_of g.M.Memory.regions c.args.sound.now c.args.self.now) c.args.limit c.go_on-told.result page c.args.self.now c.go_on-told.new.self c.args.env.now c.go_on-told.new.env at.1 at.0 c.blocks-blocks.ensures.live (c.go_on-told.ensures.ran at.1 at.0 at.2) is)
