use Rattle.std.proofs.Common.{map, ◌∙◌, sym, bytes_eq, true≢false}
use Rattle.no_ir.proofs.Naming.{mapped_position, mapped_known, found_place, found_known, found_held, known_same, inserted_names, inserted_place, inserted_held, distinct_with}
use Rattle.no_ir.proofs.names.Names.number.Goals as goal

pub returns-in-Some-clause-place : goal.returns-in-Some-clause-place
returns-in-Some-clause-place c = rw (← c.self.view_is) (found_place (map (λ v. v.items) c.self.inside.set.keys) c.args.name.now c.in-Some.at (c.in-Some.ensures.index ∙ mapped_position (λ v. v.items) (bytes_eq c.args.name.now) c.self.inside.set.keys))

pub returns-in-Some-clause-holds : goal.returns-in-Some-clause-holds
returns-in-Some-clause-holds c = rw (← c.self.view_is) (found_held (map (λ v. v.items) c.self.inside.set.keys) c.args.name.now c.in-Some.at (c.in-Some.ensures.index ∙ mapped_position (λ v. v.items) (bytes_eq c.args.name.now) c.self.inside.set.keys))

pub returns-in-Some-clause-names : goal.returns-in-Some-clause-names
returns-in-Some-clause-names c = rw (← c.self.view_is) (known_same (map (λ v. v.items) c.self.inside.set.keys) c.args.name.now (found_known (map (λ v. v.items) c.self.inside.set.keys) c.args.name.now c.in-Some.at (c.in-Some.ensures.index ∙ mapped_position (λ v. v.items) (bytes_eq c.args.name.now) c.self.inside.set.keys)))

pub returns-in_err-own-clause-known : goal.returns-in_err-own-clause-known
returns-in_err-own-clause-known c h = absurd (true≢false (sym (rw (← c.self.view_is) at h) ∙ sym (mapped_known (λ v. v.items) (bytes_eq c.args.name.now) c.self.inside.set.keys) ∙ sym c.in_default.ensures.found))

pub returns-in_err-at-clause-known : goal.returns-in_err-at-clause-known
returns-in_err-at-clause-known c h = absurd (true≢false (sym (rw (← c.self.view_is) at h) ∙ sym (mapped_known (λ v. v.items) (bytes_eq c.args.name.now) c.self.inside.set.keys) ∙ sym c.in_default.ensures.found))

pub returns-clause-place : goal.returns-clause-place
returns-clause-place c = rw (← c.self.view_is) (inserted_place (λ v. v.items) c.self.inside.set.keys c.in_ok-own.own c.args.name.now c.in_ok-at.at c.in_ok-own.ensures.items c.in_ok-at.ensures.index)

pub returns-clause-holds : goal.returns-clause-holds
returns-clause-holds c = let s = c.in_ok-at.ensures.stored in inserted_held (λ v. v.items) c.insert_full.new.self.keys c.in_ok-own.own s.0 c.args.name.now c.in_ok-at.at c.in_ok-own.ensures.items s.1 s.2

pub returns-clause-names : goal.returns-clause-names
returns-clause-names c = rw (← c.self.view_is) (inserted_names (λ v. v.items) c.self.inside.set.keys c.insert_full.new.self.keys c.in_ok-own.own c.args.name.now c.in_ok-own.ensures.items c.in_ok-at.ensures.keys)

pub invariant_of-self-2 : goal.invariant_of-self-2
invariant_of-self-2 c = rw (inserted_names (λ v. v.items) c.self.inside.set.keys c.insert_full.new.self.keys c.in_ok-own.own c.args.name.now c.in_ok-own.ensures.items c.in_ok-at.ensures.keys) (distinct_with _ c.args.name.now c.self.invariant)
