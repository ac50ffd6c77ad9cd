use Rattle.std.proofs.Common.{◌≡◌, rules, subst, sym, arith, true≢false}
use Rattle.std.proofs.lemmas.Str.{IsUtf8-from_ascii}
use Rattle.std.specs.Str.{IsUtf8}
use Rattle.no_names.proofs.Again.{are_bytes, spelled_again}
use Rattle.no_names.proofs.Ascii.{spelling_ascii}
use Rattle.no_names.proofs.spelled.spelled_name.Goals as goal
use Rattle.no_print.specs.Names.{spelling}

pub returns-in_err-put_spelling-clause-again : goal.returns-in_err-put_spelling-clause-again
returns-in_err-put_spelling-clause-again c = spelled_again c.args.name.now (are_bytes c.args.name.now (λ k. let b = c.type_inv.name k in omega (arith, b)))

pub returns-clause-again : goal.returns-clause-again
returns-clause-again c = spelled_again c.args.name.now (are_bytes c.args.name.now (λ k. let b = c.type_inv.name k in omega (arith, b)))

-- a spelling is ASCII, and so text
pub unreachable-requires : goal.unreachable-requires
unreachable-requires c =
    let name = c.args.name.now in
    let ascii = spelling_ascii name (are_bytes name (λ k. let b = c.type_inv.name k in omega (arith, b))) in
    let is : c.put_spelling.new.out.items ≡ spelling name = search rules in
    let ok = c.from_utf8.ensures.succeeds (subst IsUtf8 (sym is) (IsUtf8-from_ascii (spelling name) ascii)) in
    true≢false (sym (rw c.in-Err.is at ok))
