-- The laws of names of registers and labels.
use Rattle.std.proofs.Common.{List, ℕ}
use Rattle.no_read_rules.specs.Rules.{none, Good, IsSolid}
use Rattle.no_read_rules.proofs.Laws.{one_good, one_solid, plain_good, plain_solid, then_good, first_solid, change_good, checked_good}
use Rattle.no_read_registers.specs.Numbered.{a_register, a_definition, no_name, a_label_name, a_label, a_block_label, no_block_label, used_register, written_register, used_label, written_label, register_unnamed, numbered_label, fitting}

pub register_good : (text : List ℕ) → Good none (a_register text)
register_good text = one_good (used_register text)

pub register_solid : (text : List ℕ) → IsSolid (a_register text)
register_solid text = one_solid (used_register text)

pub definition_good : (text : List ℕ) → Good none (a_definition text)
definition_good text = one_good (written_register text)

pub definition_solid : (text : List ℕ) → IsSolid (a_definition text)
definition_solid text = one_solid (written_register text)

pub no_name_good : Good none no_name
no_name_good = change_good none register_unnamed

pub label_name_good : (text : List ℕ) → Good none (a_label_name text)
label_name_good text = one_good (used_label text)

pub label_good : (text : List ℕ) → Good none (a_label text)
unfolding a_label
label_good text = then_good none _ _ (plain_good _) (λ _. one_good (used_label text))

pub label_solid : (text : List ℕ) → IsSolid (a_label text)
unfolding a_label
label_solid text = first_solid _ _ (plain_solid _)

pub block_label_good : (text : List ℕ) → Good none (a_block_label text)
block_label_good text = one_good (written_label text)

pub block_label_solid : (text : List ℕ) → IsSolid (a_block_label text)
block_label_solid text = one_solid (written_label text)

pub no_block_label_good : Good none no_block_label
no_block_label_good = checked_good none _ fitting (change_good none numbered_label)
