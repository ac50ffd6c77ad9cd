use Rattle.std.proofs.Common.{◌≡◌, ◌+◌, ◌*◌, [], ◌∷◌, codes, length}
use Rattle.no_read_rules.specs.Lists.{more_item}
use Rattle.no_read_rules.specs.Repeated.{repeat_all, with_front}
use Rattle.no_read_rules.specs.Scope.{seen}
use Rattle.no_read_rules.specs.Types.{a_type}
use Rattle.no_read_rules.proofs.types.+types.Given as goal

abbrev pub decreases-a_type : goal.decreases-a_type
decreases-a_type l = 6 * l.depth

abbrev pub decreases-array_parts : goal.decreases-array_parts
decreases-array_parts l = 6 * l.depth + 1

abbrev pub decreases-struct_parts : goal.decreases-struct_parts
decreases-struct_parts l = 6 * l.depth + 5

abbrev pub decreases-packed_parts : goal.decreases-packed_parts
decreases-packed_parts l = 6 * l.depth + 5

abbrev pub decreases-fields : goal.decreases-fields
decreases-fields l = 6 * l.depth + 4

abbrev pub decreases-some_fields : goal.decreases-some_fields
decreases-some_fields l = 6 * l.depth + 3

abbrev pub decreases-more_fields : goal.decreases-more_fields
decreases-more_fields l = 6 * l.depth + 2

abbrev pub decreases-more_field : goal.decreases-more_field
decreases-more_field l = 6 * l.depth + 1

abbrev pub invariant-more_fields-loop-all : goal.invariant-more_fields-loop-all
invariant-more_fields-loop-all l =
    let step = more_item (seen l.scope).text (codes "}") (a_type (seen l.scope) l.depth) in
    with_front l.all (repeat_all step tt l.rest) ≡ with_front (l.fn.first ∷ []) (repeat_all step tt l.tokens)

abbrev pub decreases-more_fields-loop-all : goal.decreases-more_fields-loop-all
decreases-more_fields-loop-all l = length l.rest
