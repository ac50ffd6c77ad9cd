use Rattle.std.proofs.Common.{refl, subst, ◌≡◌, Ok, ℕ}
use Rattle.std.specs.Fmt.{signed_decimal}
use Rattle.no_read_rules.specs.Numbers.{integer_at}
use Rattle.no_read_rules.specs.declared.types.TypeHead.TheVariants as head
use Rattle.no_eval.specs.Numbers.{signed}
use Rattle.no_round_trip.proofs.WordNumbers.{integer_again, index_again, count_again}
use Rattle.no_round_trip.proofs.WordWidths.{word_head}
use Rattle.no_round_trip.proofs.spelling.numbers_mean_again.Goals as goal

pub returns-clause-integer : goal.returns-clause-integer
returns-clause-integer c = integer_again

pub returns-clause-count : goal.returns-clause-count
returns-clause-count c = count_again

pub returns-clause-index : goal.returns-clause-index
returns-clause-index c w n most small =
    let x = index_again w n (signed w n) most small refl in
    (x.number, subst (λ (v : ℕ). integer_at v (signed_decimal (signed w n)) ≡ Ok x.number) x.written x.reads, subst (λ (v : ℕ). signed v x.number ≡ signed w n) x.written x.is)

pub returns-clause-width : goal.returns-clause-width
returns-clause-width c word w e = (word_head word (head.Int w) e).reads
