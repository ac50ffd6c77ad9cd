-- The laws of functions with their blocks.
use Rattle.std.proofs.Common.{List, codes, true, refl}
use Rattle.no_ir.specs.declared.function.Block.{Block}
use Rattle.no_ir.specs.declared.function.Role.{Role}
use Rattle.no_read_rules.specs.Rules.{Rule, done, ◌>>=◌, none, Good, IsSolid}
use Rattle.no_read_rules.specs.Scope.{Meaning}
use Rattle.no_read_rules.specs.Spelled.{a_sign, is_sign, only_where}
use Rattle.no_read_rules.proofs.Laws.{plain_good, done_good, then_good, follow_good, first_solid}
use Rattle.no_read_attributes.specs.Attributes.{may_go_on}
use Rattle.no_read_functions.specs.declared.heads.Head.{Head}
use Rattle.no_read_functions.specs.Heads.{a_head}
use Rattle.no_read_functions.proofs.HeadLaws.{head_good, head_solid, one_apart, sign_out}
use Rattle.no_read_registers.specs.declared.locals.Locals.{Locals}
use Rattle.no_read_registers.specs.Numbered.{no_locals_yet}
use Rattle.no_read_instructions.specs.Instructions.{an_instr}
use Rattle.no_read_functions.specs.Blocks.{body}
use Rattle.no_read_functions.proofs.BodyLaws.{body_good}
use Rattle.no_read_attributes.proofs.OwnLaws.{inside_good, inside_solid}
use Rattle.no_read_functions.specs.Functions.{head_body, written, a_function}

module _ (m : Meaning) (role : Role) where
  blocks_behind : Head → Rule Locals (Head × List Block)
  blocks_behind head = body m.text (an_instr m role) >>= λ blocks. done (head, blocks)

  head_body_good : Good none (head_body m role)
  unfolding head_body blocks_behind
  head_body_good = follow_good (may_go_on m.text) none (a_head m role true) (λ head. a_sign m.text (codes "{") >>= λ _. blocks_behind head) (head_good m role true)
      (λ head. then_good none _ _ (plain_good _) (λ _. then_good none _ _ (body_good m role) (λ blocks. done_good none (head, blocks))))
      (λ head s t used rest b k out. one_apart (may_go_on m.text) (λ token. only_where (is_sign m.text (codes "{") token)) (λ _. blocks_behind head) (λ t s u x e. sign_out m.text (codes "{") refl refl t s u x e) s t used rest b k)

  head_body_solid : IsSolid (head_body m role)
  unfolding head_body
  head_body_solid = first_solid _ _ (head_solid m role true)

  pub function_good : Good none (a_function m role)
  unfolding a_function
  function_good = then_good none _ _ (inside_good no_locals_yet (head_body m role) none head_body_good) (λ f. done_good none (written f))

  pub function_solid : IsSolid (a_function m role)
  unfolding a_function
  function_solid = first_solid _ _ (inside_solid no_locals_yet (head_body m role) head_body_solid)
