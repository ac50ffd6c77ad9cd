use Rattle.std.proofs.Common.{◌<◌, length, get_or, arith, subst, sym, ℕ}
use Rattle.std.proofs.lemmas.List.Elements.{Contains-get_or}
use Rattle.no_calls.proofs.Finding.{found_more, noted_next, whole}
use Rattle.no_calls.proofs.found.meet_all.Goals as goal

pub meet-requires : goal.meet-requires
meet-requires c =
    let x = get_or c.args.members.now c.loop-member.member-index 0 in
    subst (λ (n : ℕ). x < n) (sym c.loop-member.invariant.noted.wide) (c.requires x (Contains-get_or c.args.members.now c.loop-member.member-index 0 (omega arith)))

pub loop-member-preserved : goal.loop-member-preserved
loop-member-preserved c =
    let within : c.loop-member.member-index < length c.args.members.now = omega arith in
    record {
      noted = noted_next c.args.level c.args.found.now c.loop-member.found c.meet.new.found c.args.members.now c.loop-member.member-index within c.loop-member.invariant.noted c.in_ok-meet.ensures.noted;
      there = found_more _ c.args.level c.loop-member.found c.meet.new.found c.args.members.now c.loop-member.member-index within c.in_ok-meet.ensures.noted c.loop-member.invariant.there c.in_ok-meet.ensures.there;
    }

pub returns-clause-there : goal.returns-clause-there
returns-clause-there c = λ b h. c.loop-member.invariant.there b (whole c.args.members.now c.loop-member.member-index b (omega arith) h)
