use Rattle.std.proofs.Common.{◌≡◌, ap, length, rules, sym, ◌∙◌}
use Rattle.std.proofs.lemmas.Option.{same_Some}
use Rattle.no_code.specs.declared.code.Place.{Place}
use Rattle.no_machine.proofs.Reaches.{place_inside}
use Rattle.no_machine.proofs.Watched.{function_is, place_is, waiting_length}
use Rattle.no_machine.proofs.machine.Machine.place.Goals as goal

pub place_at-requires : goal.place_at-requires
place_at-requires g c = let r = c.requires in place_inside _ _ _ _ _ _ _ _ _ r.1.facts _ r.1.outside _ _ _ _ _ _ _ r.4 r.5.here

pub returns : goal.returns
returns g c = λ a made env more s at.
    let kept : c.len.result ≡ length c.args.self.now.core.frames.items = search rules in
    let same = same_Some _ _ (sym c.place_at.ensures ∙ place_is _ _ _ _ _ _ _ _ _ made.facts _ _ _ _ _ _ _ s at.here) in
    record {
      function = ap (λ (x : Place). x.function) same ∙ function_is _ _ _ _ _ _ _ _ _ made.facts _ _ _ _ _ _ _ s at.here;
      callers = kept ∙ waiting_length _ _ s.callers _ _ at.here.stands.callers;
    }
