use Rattle.std.proofs.Common.{◌≡◌, ℕ, ap, refl, subst, arith, ◌∙◌}
use Rattle.no_layout.specs.declared.memory.Regions.{Regions}
use Rattle.no_semantics.specs.Externals.{do_puts, room_of}
use Rattle.no_lib.specs.Answers.{Seen, seen}
use Rattle.no_lib.specs.Text.{IsWhole, Reading}
use Rattle.no_lib.proofs.Told.{of_one}
use Rattle.no_lib.proofs.Spelled.{endless_means, missing_means, spelled_means}
use Rattle.no_lib.proofs.text.puts.Goals as goal

pub returns-in-Missing : goal.returns-in-Missing
returns-in-Missing g c =
    let r = g.M.Memory.regions c.args.mem.now in
    let at = c.in-Some.at in
    let m = c.in-Missing.ensures in
    let e : c.room-room.result ≡ room_of r at = c.room-room.ensures.value ∙ ap (λ (x : Regions). room_of x at) c.regions.ensures.regions in
    record {
      means = λ heap. of_one (do_puts r) c.args.left c.in-Some.ensures
          (missing_means r at m.n c.in-Missing.page c.args.left (seen r (g.M.Memory.held c.args.mem.now) (g.M.Memory.own c.args.mem.now) (g.M.Memory.byte c.args.mem.now) heap c.args.env.now) (omega (arith, m.within, e)) m.read m.absent m.place);
    }

pub returns-in-Endless : goal.returns-in-Endless
returns-in-Endless g c =
    let r = g.M.Memory.regions c.args.mem.now in
    let at = c.in-Some.at in
    let e : c.room-room.result ≡ room_of r at = c.room-room.ensures.value ∙ ap (λ (x : Regions). room_of x at) c.regions.ensures.regions in
    record {
      means = λ heap. of_one (do_puts r) c.args.left c.in-Some.ensures
          (endless_means r at c.args.left (seen r (g.M.Memory.held c.args.mem.now) (g.M.Memory.own c.args.mem.now) (g.M.Memory.byte c.args.mem.now) heap c.args.env.now) c.requires
          (subst (λ (k : ℕ). Reading (g.M.Memory.held c.args.mem.now) (g.M.Memory.byte c.args.mem.now) at k) e c.in-Endless.ensures));
    }

pub returns-in-Whole : goal.returns-in-Whole
returns-in-Whole g c =
    let r = g.M.Memory.regions c.args.mem.now in
    let at = c.in-Some.at in
    let e : c.room-room.result ≡ room_of r at = c.room-room.ensures.value ∙ ap (λ (x : Regions). room_of x at) c.regions.ensures.regions in
    record {
      means = λ heap. of_one (do_puts r) c.args.left c.in-Some.ensures
          (spelled_means r at c.args.left c.write_text.result (seen r (g.M.Memory.held c.args.mem.now) (g.M.Memory.own c.args.mem.now) (g.M.Memory.byte c.args.mem.now) heap c.args.env.now) (record c.args.env.now { output = c.write_text.new.output }) c.in-Whole.text.items
          (subst (λ (k : ℕ). IsWhole (g.M.Memory.held c.args.mem.now) (g.M.Memory.byte c.args.mem.now) at k c.in-Whole.text.items) e c.in-Whole.ensures) c.write_text.ensures refl refl);
    }
