use Rattle.std.proofs.Common.{◌<◌, length, get_or, arith}
use Rattle.std.proofs.lemmas.List.Elements.{Contains-get_or}
use Rattle.no_calls.proofs.Tables.{rows_more}
use Rattle.no_calls.proofs.rows.add_to_rows.Goals as goal

pub index_mut-requires : goal.index_mut-requires
index_mut-requires c =
    let x = get_or c.args.places.now c.loop-place.place-index 0 in
    let there : x < length c.args.rows.now.items = omega (arith, c.requires x (Contains-get_or c.args.places.now c.loop-place.place-index 0 (omega arith)), c.args.rows.now.ok.0) in
    omega (arith, there, c.loop-place.invariant.wide, c.loop-place.rows.ok.0)

pub loop-place-preserved : goal.loop-place-preserved
loop-place-preserved c =
    let ps = c.args.places.now in
    let i = c.loop-place.place-index in
    let within : i < length ps = omega arith in
    let there : get_or ps i 0 < length c.args.rows.now.items = omega (arith, c.requires (get_or ps i 0) (Contains-get_or ps i 0 within), c.args.rows.now.ok.0) in
    let here : get_or ps i 0 < length c.loop-place.rows.items = omega (arith, there, c.loop-place.invariant.wide) in
    rows_more ps i c.args.number c.args.rows.now.items c.loop-place.rows.items c.push.new.self c.index_mut.result.now within here c.loop-place.invariant c.index_mut.ensures.value c.in_ok-push.ensures.items
