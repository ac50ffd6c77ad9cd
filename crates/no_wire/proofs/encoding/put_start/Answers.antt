use Rattle.std.proofs.Common.{◌+◌, ◌*◌, ◌++◌, ◌∷◌, [], length, append_assoc, List, ℕ, arith}
use Rattle.std.specs.List.{flat_map}
use Rattle.no_wire.specs.Messages.{start_body, be32, be64}
use Rattle.no_wire.specs.declared.kind.Kind.TheVariants as kind
use Rattle.no_wire.proofs.Lists.{framed_by, keeps_before, length_numbers, on_any_err}
use Rattle.no_wire.proofs.encoding.put_start.Goals as goal

pub returns-in_err-put_numbers-clause-err : goal.returns-in_err-put_numbers-clause-err
returns-in_err-put_numbers-clause-err c =
    on_any_err _ _ (keeps_before c.args.into.now.items c.put_front.new.into.items _ c.put_numbers.new.into.items c.in_ok-put_front.ensures.ok
    (keeps_before c.put_front.new.into.items c.put.new.into.items _ c.put_numbers.new.into.items c.in_ok-put.ensures.ok c.in_err-put_numbers.ensures.err))

pub returns-clause-ok : goal.returns-clause-ok
returns-clause-ok c =
    let a = c.args.call.now in
    let args = c.args.args.now in
    let fixed : List ℕ = be32 a.function ++ (be64 a.budget ++ (be32 a.sp ++ (be32 a.live ++ (length args ∷ [])))) in
    framed_by c.args.into.now.items c.put_front.new.into.items c.put_numbers.new.into.items (start_body a.function a.budget a.sp a.live args) (21 + 8 * length args) c.args.epoch kind.Start
    c.in_ok-put_front.ensures.ok
    (rw (c.in_ok-put_numbers.ensures.ok, c.in_ok-put.ensures.ok, c.to_be_bytes-f.ensures, c.to_be_bytes-u.ensures, c.to_be_bytes-s.ensures, c.to_be_bytes-b.ensures) (append_assoc c.put_front.new.into.items fixed (flat_map be64 args)))
    (omega (arith, length_numbers args))
