-- Tables of predecessors have for each label just the labels that lead to it.
use Rattle.std.proofs.Common.{◌≡◌, ◌<◌, ℕ, suc, ◌+◌, Bool, true, false, ◌&&◌, ◌||◌, nat_eq, nat_lt, List, [], ◌∷◌, ◌++◌, length, take, get_or, set, replicate, slice_get, Option, Some, None, refl, sym, ap, subst, ◌∙◌, inl, inr, ◌≤◌, arith, true≢false, if◌then◌else◌}
use Rattle.std.specs.List.{fold, filter, list_all, list_any}
use Rattle.std.proofs.lemmas.Bool.{eqb-true, eqb-false, ltb-true, ltb-false, ne_eqb}
use Rattle.std.proofs.lemmas.List.{get_or-replicate, get_or-set_other, get_or-set_same, get_or_default, length-replicate, length-set}
use Rattle.std.proofs.lemmas.Option.{slice_get_cases, slice_get_read}
use mathlib.Core.Path.{fun_ext}
use Rattle.no_ir.specs.declared.instruction.Op.{Op}
use Rattle.no_ir.specs.declared.instruction.Op.TheVariants as op
use Rattle.no_ir.specs.declared.instruction.Instr.{Instr}
use Rattle.no_ir.specs.declared.function.Block.{Block}
use Rattle.no_ir.specs.declared.function.Function.{Function}
use Rattle.no_verify_structure.specs.Edges.{with_edge, with_exits, table_of, entry_of}
use Rattle.no_verify_structure.specs.Finding.{first_break}
use Rattle.no_verify_structure.specs.Names.{is_in, with_number, blocks_labels}
use Rattle.no_module.specs.Instructions.{pair_labels}
use Rattle.no_verify_structure.specs.Phis.{block_exits, leads_to, predecessors, op_meets, phi_allowed, phis_meet, same_labels, pairs_agree}
use Rattle.no_verify_structure.proofs.Members.{same_tests, same_members, put_member, or_false}

pub with_edge-length : (from : ℕ) (table : List (List ℕ)) (to : ℕ) → length (with_edge from table to) ≡ length table
with_edge-length from table to = by (nat_lt to (length table))
  where
    by : (b : Bool) → length (if b then set table to (with_number (get_or table to []) from) else table) ≡ length table
    by true = length-set table to (with_number (get_or table to []) from)
    by false = refl

pub edge_member : (from : ℕ) (table : List (List ℕ)) (to l x : ℕ) → l < length table
    → is_in (get_or (with_edge from table to) l []) x ≡ (is_in (get_or table l []) x || (nat_eq l to && nat_eq x from))
edge_member from table to l x lt = by (nat_lt to (length table)) refl
  where
    here : (c : Bool) → nat_eq l to ≡ c
        → is_in (get_or (set table to (with_number (get_or table to []) from)) l []) x ≡ (is_in (get_or table l []) x || (c && nat_eq x from))
    here true d =
        let same : l ≡ to = eqb-true l to d in
        let within : to < length table = subst (λ (k : ℕ). k < length table) same lt in
        subst (λ (k : ℕ). is_in (get_or (set table to (with_number (get_or table to []) from)) k []) x ≡ (is_in (get_or table k []) x || nat_eq x from)) (sym same)
        (ap (λ (ys : List ℕ). is_in ys x) (get_or-set_same table to (with_number (get_or table to []) from) [] within) ∙ put_member (get_or table to []) from x)
    here false d =
        ap (λ (ys : List ℕ). is_in ys x) (get_or-set_other table to l (with_number (get_or table to []) from) [] (eqb-false l to d))
        ∙ or_false (is_in (get_or table l []) x)

    by : (b : Bool) → nat_lt to (length table) ≡ b
        → is_in (get_or (if b then set table to (with_number (get_or table to []) from) else table) l []) x ≡ (is_in (get_or table l []) x || (nat_eq l to && nat_eq x from))
    by true e = here (nat_eq l to) refl
    by false e =
        let past : length table ≤ to = ltb-false to (length table) e in
        let other : nat_eq l to ≡ false = ne_eqb l to (λ same. absurd (omega (arith, same, past, lt))) in
        rw other (or_false (is_in (get_or table l []) x))

or_assoc : (a b c : Bool) → ((a || b) || c) ≡ (a || (b || c))
or_assoc true b c = refl
or_assoc false b c = refl

and_or : (a b c : Bool) → ((a && c) || (b && c)) ≡ ((a || b) && c)
and_or true true true = refl
and_or true true false = refl
and_or true false true = refl
and_or true false false = refl
and_or false b c = refl

exits-length : (from : ℕ) (table : List (List ℕ)) (exits : List ℕ) → length (fold (with_edge from) table exits) ≡ length table
exits-length from table [] = refl
exits-length from table (to ∷ more) = exits-length from (with_edge from table to) more ∙ with_edge-length from table to

exits_member : (from : ℕ) (table : List (List ℕ)) (exits : List ℕ) (l x : ℕ) → l < length table
    → is_in (get_or (fold (with_edge from) table exits) l []) x ≡ (is_in (get_or table l []) x || (is_in exits l && nat_eq x from))
exits_member from table [] l x lt = or_false _
exits_member from table (to ∷ more) l x lt =
    exits_member from (with_edge from table to) more l x (let e = with_edge-length from table to in omega arith)
    ∙ ap (λ b. b || (is_in more l && nat_eq x from)) (edge_member from table to l x lt)
    ∙ or_assoc (is_in (get_or table l []) x) (nat_eq l to && nat_eq x from) (is_in more l && nat_eq x from)
    ∙ ap (λ b. is_in (get_or table l []) x || b) (and_or (nat_eq l to) (is_in more l) (nat_eq x from))

blocks-length : (table : List (List ℕ)) (blocks : List Block) → length (fold with_exits table blocks) ≡ length table
blocks-length table [] = refl
blocks-length table (b ∷ more) = blocks-length (with_exits table b) more ∙ exits-length b.label table (block_exits b)

lead_member : (c : Bool) (label : ℕ) (ys : List Block) (b : Block) (x : ℕ) → b.label ≡ label
    → (a : Bool) → ((a || (c && nat_eq x label)) || is_in (blocks_labels ys) x) ≡ (a || is_in (blocks_labels (if c then b ∷ ys else ys)) x)
lead_member true label ys b x e a = rw (← e) (or_assoc a (nat_eq x b.label) (is_in (blocks_labels ys) x))
lead_member false label ys b x e a = ap (λ d. d || is_in (blocks_labels ys) x) (sym (or_false a))

blocks_member : (table : List (List ℕ)) (blocks : List Block) (l x : ℕ) → l < length table
    → is_in (get_or (fold with_exits table blocks) l []) x ≡ (is_in (get_or table l []) x || is_in (blocks_labels (filter (leads_to l) blocks)) x)
blocks_member table [] l x lt = or_false _
blocks_member table (b ∷ more) l x lt =
    blocks_member (with_exits table b) more l x (let e = exits-length b.label table (block_exits b) in omega arith)
    ∙ ap (λ d. d || is_in (blocks_labels (filter (leads_to l) more)) x) (exits_member b.label table (block_exits b) l x lt)
    ∙ lead_member (leads_to l b) b.label (filter (leads_to l) more) b x refl (is_in (get_or table l []) x)

-- what a table has at a label leads to it
pub same_predecessors : (f : Function) (l x : ℕ) → is_in (entry_of (slice_get (table_of f) l)) x ≡ is_in (predecessors f l) x
same_predecessors f l x = by (nat_lt l (length f.labels)) refl
  where
    size : length (table_of f) ≡ length f.labels
    size = blocks-length (replicate (length f.labels) []) f.blocks ∙ length-replicate (length f.labels) []

    by : (b : Bool) → nat_lt l (length f.labels) ≡ b
        → is_in (entry_of (slice_get (table_of f) l)) x ≡ is_in (if b then blocks_labels (filter (leads_to l) f.blocks) else []) x
    by true e =
        let lt : l < length f.labels = ltb-true l (length f.labels) e in
        let start : l < length (replicate {A = List ℕ} (length f.labels) []) = (let n = length-replicate {A = List ℕ} (length f.labels) [] in omega (arith, n, lt)) in
        let within : l < length (table_of f) = omega (arith, size, lt) in
        let read : slice_get (table_of f) l ≡ Some (get_or (table_of f) l []) =
        slice_get_read (table_of f) (length (table_of f)) l (get_or (table_of f) l []) refl within (get_or_default (table_of f) l [] (get_or (table_of f) l []) within) in
        ap (λ o. is_in (entry_of o) x) read
        ∙ blocks_member (replicate (length f.labels) []) f.blocks l x start
        ∙ ap (λ (ys : List ℕ). is_in ys x || is_in (blocks_labels (filter (leads_to l) f.blocks)) x) (get_or-replicate (length f.labels) l [] [] lt)
    by false e =
        let past : length f.labels ≤ l = ltb-false l (length f.labels) e in
        elim ((slice_get_cases (table_of f) l).1) [
          | inl (y, lt, is, same) ↦ absurd (omega (arith, size, past, lt))
          | inr (after, none) ↦ ap (λ o. is_in (entry_of o) x) none
        ]

meets_same : (a b : List ℕ) → ((x : ℕ) → is_in a x ≡ is_in b x) → (allowed : Bool) (o : Op) → op_meets a allowed o ≡ op_meets b allowed o
meets_same a b h allowed (op.Phi t pairs) =
    ap (λ (same : Bool). allowed && (same && pairs_agree pairs))
    (ap (λ (c : Bool). c && list_all (is_in (pair_labels pairs)) a) (same_tests a b (pair_labels pairs) h)
    ∙ ap (λ (c : Bool). list_all (is_in b) (pair_labels pairs) && c) (same_members (is_in (pair_labels pairs)) a b h))
meets_same a b h allowed _ = refl

pub entry_meets : (f : Function) (l b : ℕ) (instrs : List Instr) → phis_meet (entry_of (slice_get (table_of f) l)) b instrs ≡ phis_meet (predecessors f l) b instrs
entry_meets f l b instrs =
    ap (λ (meets : Bool → Op → Bool). first_break (λ i (instr : Instr). meets (phi_allowed b (take i instrs)) instr.op) 0 instrs)
    (fun_ext (λ allowed. fun_ext (meets_same (entry_of (slice_get (table_of f) l)) (predecessors f l) (same_predecessors f l) allowed)))
