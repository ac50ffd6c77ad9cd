use Rattle.std.proofs.Common.{refl}
use Rattle.no_module.specs.declared.external.External.TheVariants as external
use Rattle.no_semantics.specs.Externals.{do_smax, do_smin, do_umax, do_umin}
use Rattle.no_lib.specs.Answers.{Seen, seen}
use Rattle.no_lib.proofs.Told.{of_which}
use Rattle.no_lib.proofs.Chosen.{smax_is, smin_is, umax_is, umin_is}
use Rattle.no_lib.proofs.calls.dispatch.Goals as goal

pub returns-in-GetChar : goal.returns-in-GetChar
returns-in-GetChar g c =
    let r = g.M.Memory.regions c.args.mem.now in
    let s : Seen = seen r (g.M.Memory.held c.args.mem.now) (g.M.Memory.own c.args.mem.now) (g.M.Memory.byte c.args.mem.now) c.args.heap.now c.args.env.now in
    record { means = of_which r c.args.args.now c.args.left c.in-GetChar.is (c.get_char.ensures s refl) }

pub returns-in-PutChar : goal.returns-in-PutChar
returns-in-PutChar g c =
    let r = g.M.Memory.regions c.args.mem.now in
    let s : Seen = seen r (g.M.Memory.held c.args.mem.now) (g.M.Memory.own c.args.mem.now) (g.M.Memory.byte c.args.mem.now) c.args.heap.now c.args.env.now in
    record { means = of_which r c.args.args.now c.args.left c.in-PutChar.is (c.put_char.ensures s refl) }

pub returns-in-Puts : goal.returns-in-Puts
returns-in-Puts g c =
    let r = g.M.Memory.regions c.args.mem.now in
    let s : Seen = seen r (g.M.Memory.held c.args.mem.now) (g.M.Memory.own c.args.mem.now) (g.M.Memory.byte c.args.mem.now) c.args.heap.now c.args.env.now in
    record { means = of_which r c.args.args.now c.args.left c.in-Puts.is (c.puts.ensures.means c.args.heap.now) }

pub returns-in-Malloc : goal.returns-in-Malloc
returns-in-Malloc g c =
    let r = g.M.Memory.regions c.args.mem.now in
    let s : Seen = seen r (g.M.Memory.held c.args.mem.now) (g.M.Memory.own c.args.mem.now) (g.M.Memory.byte c.args.mem.now) c.args.heap.now c.args.env.now in
    record { means = of_which r c.args.args.now c.args.left c.in-Malloc.is (c.malloc.ensures s refl) }

pub returns-in-Calloc : goal.returns-in-Calloc
returns-in-Calloc g c =
    let r = g.M.Memory.regions c.args.mem.now in
    let s : Seen = seen r (g.M.Memory.held c.args.mem.now) (g.M.Memory.own c.args.mem.now) (g.M.Memory.byte c.args.mem.now) c.args.heap.now c.args.env.now in
    record { means = of_which r c.args.args.now c.args.left c.in-Calloc.is (c.calloc.ensures.means c.args.env.now) }

pub returns-in-Free : goal.returns-in-Free
returns-in-Free g c =
    let r = g.M.Memory.regions c.args.mem.now in
    let s : Seen = seen r (g.M.Memory.held c.args.mem.now) (g.M.Memory.own c.args.mem.now) (g.M.Memory.byte c.args.mem.now) c.args.heap.now c.args.env.now in
    record { means = of_which r c.args.args.now c.args.left c.in-Free.is (c.free.ensures s refl) }

pub returns-in-Exit : goal.returns-in-Exit
returns-in-Exit g c =
    let r = g.M.Memory.regions c.args.mem.now in
    let s : Seen = seen r (g.M.Memory.held c.args.mem.now) (g.M.Memory.own c.args.mem.now) (g.M.Memory.byte c.args.mem.now) c.args.heap.now c.args.env.now in
    record { means = of_which r c.args.args.now c.args.left c.in-Exit.is (c.exit.ensures s) }

pub returns-in-Abort : goal.returns-in-Abort
returns-in-Abort g c =
    let r = g.M.Memory.regions c.args.mem.now in
    let s : Seen = seen r (g.M.Memory.held c.args.mem.now) (g.M.Memory.own c.args.mem.now) (g.M.Memory.byte c.args.mem.now) c.args.heap.now c.args.env.now in
    record { means = of_which r c.args.args.now c.args.left c.in-Abort.is (c.abort.ensures s) }

pub returns-in-Move : goal.returns-in-Move
returns-in-Move g c =
    let r = g.M.Memory.regions c.args.mem.now in
    let s : Seen = seen r (g.M.Memory.held c.args.mem.now) (g.M.Memory.own c.args.mem.now) (g.M.Memory.byte c.args.mem.now) c.args.heap.now c.args.env.now in
    record { means = of_which r c.args.args.now c.args.left c.in-Move.is (c.transfer.ensures.means c.args.heap.now c.args.env.now) }

pub returns-in-Set : goal.returns-in-Set
returns-in-Set g c =
    let r = g.M.Memory.regions c.args.mem.now in
    let s : Seen = seen r (g.M.Memory.held c.args.mem.now) (g.M.Memory.own c.args.mem.now) (g.M.Memory.byte c.args.mem.now) c.args.heap.now c.args.env.now in
    record { means = of_which r c.args.args.now c.args.left c.in-Set.is (c.fill.ensures.means c.args.heap.now c.args.env.now) }

pub returns-in-Swap : goal.returns-in-Swap
returns-in-Swap g c =
    let r = g.M.Memory.regions c.args.mem.now in
    let s : Seen = seen r (g.M.Memory.held c.args.mem.now) (g.M.Memory.own c.args.mem.now) (g.M.Memory.byte c.args.mem.now) c.args.heap.now c.args.env.now in
    record { means = of_which r c.args.args.now c.args.left c.in-Swap.is (c.swap.ensures s) }

pub returns-in-UMin : goal.returns-in-UMin
returns-in-UMin g c =
    let r = g.M.Memory.regions c.args.mem.now in
    let s : Seen = seen r (g.M.Memory.held c.args.mem.now) (g.M.Memory.own c.args.mem.now) (g.M.Memory.byte c.args.mem.now) c.args.heap.now c.args.env.now in
    record { means = of_which r c.args.args.now c.args.left c.in-UMin.is (c.choose.ensures (external.UMin c.in-UMin.width) (do_umin c.in-UMin.width) s (λ a b w. umin_is c.in-UMin.width a b w)) }

pub returns-in-UMax : goal.returns-in-UMax
returns-in-UMax g c =
    let r = g.M.Memory.regions c.args.mem.now in
    let s : Seen = seen r (g.M.Memory.held c.args.mem.now) (g.M.Memory.own c.args.mem.now) (g.M.Memory.byte c.args.mem.now) c.args.heap.now c.args.env.now in
    record { means = of_which r c.args.args.now c.args.left c.in-UMax.is (c.choose-in-UMax.ensures (external.UMax c.in-UMax.width) (do_umax c.in-UMax.width) s (λ a b w. umax_is c.in-UMax.width a b w)) }

pub returns-in-SMin : goal.returns-in-SMin
returns-in-SMin g c =
    let r = g.M.Memory.regions c.args.mem.now in
    let s : Seen = seen r (g.M.Memory.held c.args.mem.now) (g.M.Memory.own c.args.mem.now) (g.M.Memory.byte c.args.mem.now) c.args.heap.now c.args.env.now in
    record { means = of_which r c.args.args.now c.args.left c.in-SMin.is (c.choose-in-SMin.ensures (external.SMin c.in-SMin.width) (do_smin c.in-SMin.width) s (λ a b w. smin_is c.in-SMin.width a b w)) }

pub returns-in-SMax : goal.returns-in-SMax
returns-in-SMax g c =
    let r = g.M.Memory.regions c.args.mem.now in
    let s : Seen = seen r (g.M.Memory.held c.args.mem.now) (g.M.Memory.own c.args.mem.now) (g.M.Memory.byte c.args.mem.now) c.args.heap.now c.args.env.now in
    record { means = of_which r c.args.args.now c.args.left c.in-SMax.is (c.choose-in-SMax.ensures (external.SMax c.in-SMax.width) (do_smax c.in-SMax.width) s (λ a b w. smax_is c.in-SMax.width a b w)) }
