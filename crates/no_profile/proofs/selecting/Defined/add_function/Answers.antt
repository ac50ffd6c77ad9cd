use Rattle.std.proofs.Common.{sym, ◌∙◌, List, ℕ, ◌≡◌, ◌++◌, ◌∷◌, [], OnOk, if◌then◌else◌, subst}
use Rattle.no_ir.specs.Naming.{is_known, with_name}
use Rattle.no_profile.proofs.Numbering.{added_on, skipped}
use Rattle.no_profile.proofs.selecting.Defined.add_function.Goals as goal

pub returns-then-is_declared-clause-numbered : goal.returns-then-is_declared-clause-numbered
returns-then-is_declared-clause-numbered c = λ before is n. skipped before c.args.function.now _ _ (sym c.is_declared.ensures ∙ c.if-is_declared.true) n

pub returns-clause-numbered : goal.returns-clause-numbered
returns-clause-numbered c = λ before is n.
    let old = c.args.self.now in
    let names = subst (λ (name : List ℕ). OnOk c.add.result (c.add.new.self.names ≡ with_name old.names name)) c.as_slice.ensures c.add.ensures.names in
    let numbers = subst (λ (name : List ℕ). OnOk c.add.result (c.add.new.self.numbers.items ≡ (if is_known old.names name then old.numbers.items else old.numbers.items ++ c.args.k ∷ []))) c.as_slice.ensures c.add.ensures.numbers in
    added_on c.add.result before c.args.function.now _ _ _ _ c.args.k (sym c.is_declared.ensures ∙ c.if-is_declared.false) is n names numbers
