use Rattle.std.proofs.Common.{◌≡◌, ℕ, List, ap, ◌∙◌, bytes_eq, position, Bool, if◌then◌else◌}
use Rattle.no_read_rules.specs.Unescaped.{inner, unescaped, name_of}
use Rattle.no_read_rules.proofs.names.find_name.Goals as goal

pub returns-in_ok-name : goal.returns-in_ok-name
returns-in_ok-name c =
    let sp = c.args.spelling.now in
    let e : c.as_slice.result.now ≡ name_of sp = c.as_slice.ensures ∙ c.in_ok-name.ensures ∙ ap unescaped c.inner.ensures ∙ ap (λ (b : Bool). if b then unescaped (inner sp) else sp) c.if-is_quoted.ensures in
    c.find.ensures ∙ ap (λ (n : List ℕ). position (bytes_eq n) c.args.names.now) e

pub returns-else-is_quoted : goal.returns-else-is_quoted
returns-else-is_quoted c =
    let sp = c.args.spelling.now in
    let e : sp ≡ name_of sp = ap (λ (b : Bool). if b then unescaped (inner sp) else sp) c.if-is_quoted.ensures in
    c.find-else-is_quoted.ensures ∙ ap (λ (n : List ℕ). position (bytes_eq n) c.args.names.now) e
