use Rattle.std.proofs.Common.{◌≡◌, ◌+◌, ◌*◌, [], ◌∷◌, codes, length}
use Rattle.no_read_rules.specs.Lists.{more_item}
use Rattle.no_read_rules.specs.Repeated.{repeat_all, with_front}
use Rattle.no_read_rules.specs.Scope.{seen}
use Rattle.no_read_constants.specs.Constants.{a_const, member, more_fields}
use Rattle.no_read_constants.proofs.constants.+constants.Given as goal

abbrev pub decreases-a_const : goal.decreases-a_const
decreases-a_const l = 10 * l.depth

abbrev pub decreases-with_brackets : goal.decreases-with_brackets
decreases-with_brackets l = 10 * l.depth + 8

abbrev pub decreases-array_const : goal.decreases-array_const
decreases-array_const l = 10 * l.depth + 6

abbrev pub decreases-elements : goal.decreases-elements
decreases-elements l = 10 * l.depth + 5

abbrev pub decreases-some_elements : goal.decreases-some_elements
decreases-some_elements l = 10 * l.depth + 4

abbrev pub decreases-more_elements : goal.decreases-more_elements
decreases-more_elements l = 10 * l.depth + 3

abbrev pub decreases-more_element : goal.decreases-more_element
decreases-more_element l = 10 * l.depth + 2

abbrev pub decreases-member : goal.decreases-member
decreases-member l = 10 * l.depth + 1

abbrev pub decreases-struct_const : goal.decreases-struct_const
decreases-struct_const l = 10 * l.depth + 6

abbrev pub decreases-packed_const : goal.decreases-packed_const
decreases-packed_const l = 10 * l.depth + 6

abbrev pub decreases-fields : goal.decreases-fields
decreases-fields l = 10 * l.depth + 5

abbrev pub decreases-some_fields : goal.decreases-some_fields
decreases-some_fields l = 10 * l.depth + 4

abbrev pub decreases-more_fields : goal.decreases-more_fields
decreases-more_fields l = 10 * l.depth + 3

abbrev pub decreases-next_field : goal.decreases-next_field
decreases-next_field l = 10 * l.depth + 2

abbrev pub invariant-more_elements-loop-all : goal.invariant-more_elements-loop-all
invariant-more_elements-loop-all l =
    let step = more_item (seen l.scope).text (codes "]") (member (seen l.scope) l.depth (a_const (seen l.scope) l.depth) l.element) in
    with_front l.all (repeat_all step tt l.rest) ≡ with_front (l.fn.first ∷ []) (repeat_all step tt l.tokens)

abbrev pub decreases-more_elements-loop-all : goal.decreases-more_elements-loop-all
decreases-more_elements-loop-all l = length l.rest

abbrev pub invariant-more_fields-loop-all : goal.invariant-more_fields-loop-all
invariant-more_fields-loop-all l =
    let m = seen l.scope in
    with_front l.all ((more_fields m l.depth (a_const m l.depth) (codes "}") l.left).read tt l.rest) ≡ with_front (l.fn.first ∷ []) ((more_fields m l.depth (a_const m l.depth) (codes "}") l.types).read tt l.tokens)

abbrev pub decreases-more_fields-loop-all : goal.decreases-more_fields-loop-all
decreases-more_fields-loop-all l = length l.rest
