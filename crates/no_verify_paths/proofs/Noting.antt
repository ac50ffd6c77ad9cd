-- What the notes keep, instruction by instruction.
use Rattle.std.proofs.Common.{◌≡◌, ℕ, ◌+◌, ◌-◌, ◌/◌, ◌<◌, ◌≤◌, ◌||◌, ◌==◌, ◌⊎◌, Bool, true, false, List, [], ◌∷◌, ◌++◌, length, take, get_or, Vec, Option, Some, None, slice_get, if◌then◌else◌, refl, sym, ap, ◌∙◌, subst, inl, inr, arith}
use Rattle.std.specs.Global.{Global}
use Rattle.std.specs.List.{All, Contains, cons_option, filter_map, list_any}
use Rattle.std.proofs.lemmas.Bool.{cases_lt, cases_eq, cases_Bool, false≢true}
use Rattle.std.proofs.lemmas.Bool.Decides.{nat_tests}
use Rattle.std.proofs.lemmas.List.{take_all}
use Rattle.std.proofs.lemmas.List.Folds.{list_any_more, list_any_at}
use Rattle.std.proofs.lemmas.List.Elements.{All-nil, All-cons, Contains-append_left, Contains-append_right, Contains-append_cases, Contains-push_cases}
use Rattle.std.proofs.lemmas.Option.{slice_get_read, slice_get_within, get_or_from_slice_get, slice_get_past, none-some, same_Some}
use Rattle.no_ir.specs.declared.instruction.Instr.{Instr}
use Rattle.no_ir.specs.declared.function.Block.{Block}
use Rattle.no_ir.specs.declared.function.Function.{Function}
use Rattle.no_module.specs.Instructions.{exits_in}
use Rattle.no_verify_paths.specs.Paths.{assigned, assigns, code_of, code_in, exits, successors, block_of, first_from, uses, phi_uses, uses_at, uses_in, phi_uses_at, phi_uses_in, is_result, IsUnassigned, MissesHere, MissesAtEnd, IsBefore}
use Rattle.no_verify_paths.specs.Flow.{row}
use Rattle.no_verify_paths.specs.Survey.{at, is_some_of, here, there, IsNeed, IsNoted, IsAssignment, RowAdded, Gathers, IsHere, IsThere, IsTold, IsStep, Notes, IsLabels}
use Rattle.no_verify_paths.specs.declared.need.Need.{Need}
use Rattle.no_verify_paths.specs.declared.survey.Notebook.{Notebook}

-- ---- gathering

pub gathers_one : (need : Need) (old new : List (Vec Need Global)) → RowAdded (need.register / 64) need old new → Gathers (λ u. u ≡ need) old new
gathers_one need old new added = record {
  kept = added.kept;
  only = λ j u h. elim (added.only j u h) [ inl was ↦ inl was | inr (row', is) ↦ inr (ap (λ (v : Need). v.register / 64) is ∙ sym row', is) ];
  all = λ u is. subst (λ v. Contains (row new (v.register / 64)) v) (sym is) added.there;
}

pub gathers_none : (W : Need → Type 0) (rows : List (Vec Need Global)) → ((u : Need) → W u → ⊥) → Gathers W rows rows
gathers_none W rows no' = record {
  kept = λ j u h. h;
  only = λ j u h. inl h;
  all = λ u w. absurd (no' u w);
}

pub gathers_as : (V W : Need → Type 0) (a b : List (Vec Need Global)) → ((u : Need) → V u → W u) → ((u : Need) → W u → V u) → Gathers V a b → Gathers W a b
gathers_as V W a b to from g = record {
  kept = g.kept;
  only = λ j u h. elim (g.only j u h) [ inl was ↦ inl was | inr (row', v) ↦ inr (row', to u v) ];
  all = λ u w. g.all u (from u w);
}

pub gathers_then : (V W : Need → Type 0) (a b c : List (Vec Need Global)) → Gathers V a b → Gathers W b c → Gathers (λ u. V u ⊎ W u) a c
gathers_then V W a b c g h = record {
  kept = λ j u x. h.kept j u (g.kept j u x);
  only = λ j u x. elim (h.only j u x) [
    | inl was ↦ elim (g.only j u was) [ inl old ↦ inl old | inr (row', v) ↦ inr (row', inl v) ]
    | inr (row', w) ↦ inr (row', inr w)
  ];
  all = λ u vw. elim vw [ inl v ↦ h.kept (u.register / 64) u (g.all u v) | inr w ↦ h.all u w ];
}

no_element : {X : Type 0} (x : X) → Contains {X = X} [] x → ⊥
no_element x h = omega (arith, h.1)

one_element : {X : Type 0} (y x : X) → Contains (y ∷ []) x → y ≡ x
one_element y x h = elim (Contains-push_cases [] y x h) [ inl past ↦ absurd (no_element x past) | inr same ↦ same ]

module _ (marks : List (Option ℕ)) (user : ℕ × ℕ) where
  pub here_none : (u : Need) → IsHere [] marks user u → ⊥
  here_none u h = no_element h.register h.used

  pub here_to : (xs : List ℕ) (x : ℕ) (u : Need) → IsHere xs marks user u ⊎ IsHere (x ∷ []) marks user u → IsHere (xs ++ x ∷ []) marks user u
  here_to xs x u (inl h) = record { register = h.register; used = Contains-append_left xs (x ∷ []) h.register h.used; unmarked = h.unmarked; need = h.need }
  here_to xs x u (inr h) = record { register = h.register; used = Contains-append_right xs (x ∷ []) h.register h.used; unmarked = h.unmarked; need = h.need }

  pub here_from : (xs : List ℕ) (x : ℕ) (u : Need) → IsHere (xs ++ x ∷ []) marks user u → IsHere xs marks user u ⊎ IsHere (x ∷ []) marks user u
  here_from xs x u h = elim (Contains-append_cases xs (x ∷ []) h.register h.used) [
    | inl early ↦ inl (record { register = h.register; used = early; unmarked = h.unmarked; need = h.need })
    | inr late ↦ inr (record { register = h.register; used = late; unmarked = h.unmarked; need = h.need })
  ]

  pub here_more : (xs : List ℕ) (x : ℕ) (a b c : List (Vec Need Global)) → Gathers (IsHere xs marks user) a b → Gathers (IsHere (x ∷ []) marks user) b c → Gathers (IsHere (xs ++ x ∷ []) marks user) a c
  here_more xs x a b c g h = gathers_as (λ u. IsHere xs marks user u ⊎ IsHere (x ∷ []) marks user u) (IsHere (xs ++ x ∷ []) marks user) a c (here_to xs x) (here_from xs x) (gathers_then (IsHere xs marks user) (IsHere (x ∷ []) marks user) a b c g h)

  -- the register was assigned before, so nothing is needed
  pub here_marked : (r : ℕ) (a : List (Vec Need Global)) → is_some_of (at marks r) user.0 ≡ true → Gathers (IsHere (r ∷ []) marks user) a a
  here_marked r a m = gathers_none (IsHere (r ∷ []) marks user) a (λ u h. false≢true (sym h.unmarked ∙ (ap (λ x. is_some_of (at marks x) user.0) (sym (one_element r h.register h.used)) ∙ m)))

  pub here_unmarked : (r : ℕ) (a b : List (Vec Need Global)) → is_some_of (at marks r) user.0 ≡ false → Gathers (λ u. u ≡ here r user) a b → Gathers (IsHere (r ∷ []) marks user) a b
  here_unmarked r a b m g = gathers_as (λ u. u ≡ here r user) (IsHere (r ∷ []) marks user) a b
      (λ u e. record { register = r; used = (0, omega arith, refl); unmarked = m; need = e })
      (λ u h. h.need ∙ ap (λ x. here x user) (sym (one_element r h.register h.used))) g

module _ (labels : List (Option ℕ)) (user : ℕ × ℕ) where
  nowhere : (p : ℕ × ℕ) (r l b : ℕ) → p ≡ (r, l) → at labels p.1 ≡ None → at labels l ≡ Some b → ⊥
  nowhere p r l b e n s = none-some b (sym n ∙ (ap (λ (x : ℕ × ℕ). at labels x.1) e ∙ s))

  same : (p : ℕ × ℕ) (r l d b : ℕ) → p ≡ (r, l) → at labels p.1 ≡ Some b → at labels l ≡ Some d → there r d user ≡ there p.0 b user
  same p r l d b e s t =
      ap (λ x. there x d user) (sym (ap (λ (x : ℕ × ℕ). x.0) e)) ∙ ap (λ x. there p.0 x user) (sym (same_Some b d (sym s ∙ (ap (λ (x : ℕ × ℕ). at labels x.1) e ∙ t))))

  pub there_none : (u : Need) → IsThere labels [] user u → ⊥
  there_none u h = no_element (h.register, h.label) h.used

  pub there_to : (xs : List (ℕ × ℕ)) (x : ℕ × ℕ) (u : Need) → IsThere labels xs user u ⊎ IsThere labels (x ∷ []) user u → IsThere labels (xs ++ x ∷ []) user u
  there_to xs x u (inl h) = record { register = h.register; label = h.label; block = h.block; used = Contains-append_left xs (x ∷ []) (h.register, h.label) h.used; leads = h.leads; need = h.need }
  there_to xs x u (inr h) = record { register = h.register; label = h.label; block = h.block; used = Contains-append_right xs (x ∷ []) (h.register, h.label) h.used; leads = h.leads; need = h.need }

  pub there_from : (xs : List (ℕ × ℕ)) (x : ℕ × ℕ) (u : Need) → IsThere labels (xs ++ x ∷ []) user u → IsThere labels xs user u ⊎ IsThere labels (x ∷ []) user u
  there_from xs x u h = elim (Contains-append_cases xs (x ∷ []) (h.register, h.label) h.used) [
    | inl early ↦ inl (record { register = h.register; label = h.label; block = h.block; used = early; leads = h.leads; need = h.need })
    | inr late ↦ inr (record { register = h.register; label = h.label; block = h.block; used = late; leads = h.leads; need = h.need })
  ]

  pub there_more : (xs : List (ℕ × ℕ)) (x : ℕ × ℕ) (a b c : List (Vec Need Global)) → Gathers (IsThere labels xs user) a b → Gathers (IsThere labels (x ∷ []) user) b c → Gathers (IsThere labels (xs ++ x ∷ []) user) a c
  there_more xs x a b c g h = gathers_as (λ u. IsThere labels xs user u ⊎ IsThere labels (x ∷ []) user u) (IsThere labels (xs ++ x ∷ []) user) a c (there_to xs x) (there_from xs x) (gathers_then (IsThere labels xs user) (IsThere labels (x ∷ []) user) a b c g h)

  pub there_nowhere : (p : ℕ × ℕ) (a : List (Vec Need Global)) → at labels p.1 ≡ None → Gathers (IsThere labels (p ∷ []) user) a a
  there_nowhere p a no' = gathers_none (IsThere labels (p ∷ []) user) a (λ u h. nowhere p h.register h.label h.block (one_element p (h.register, h.label) h.used) no' h.leads)

  pub there_leads : (p : ℕ × ℕ) (b : ℕ) (a c : List (Vec Need Global)) → at labels p.1 ≡ Some b → Gathers (λ u. u ≡ there p.0 b user) a c → Gathers (IsThere labels (p ∷ []) user) a c
  there_leads p b a c leads g = gathers_as (λ u. u ≡ there p.0 b user) (IsThere labels (p ∷ []) user) a c
      (λ u e. record { register = p.0; label = p.1; block = b; used = (0, omega arith, refl); leads = leads; need = e })
      (λ u h. h.need ∙ same p h.register h.label h.block b (one_element p (h.register, h.label) h.used) leads h.leads) g

-- ---- what an instruction assigns

or_none : (b : Bool) → b ≡ (b || false)
or_none true = refl
or_none false = refl

pub told_none : (n : ℕ) (marks : List (Option ℕ)) (a : List (Vec (ℕ × ℕ) Global)) → IsTold None n marks marks a a
told_none n marks a = record {
  kept = λ j p h. h;
  only = λ j p h. inl h;
  there = λ r e. cc;
  marked = λ r. or_none (is_some_of (at marks r) n);
  unmarked = λ r c lt e. e;
}

is_same : (s r : ℕ) → (s == r) ≡ true → r ≡ s
is_same s r e = grind (arith, nat_tests)

is_other : (s r : ℕ) → (r ≡ s → ⊥) → (s == r) ≡ false
is_other s r n = grind (arith, nat_tests)

is_itself : (s : ℕ) → (s == s) ≡ true
is_itself s = grind (arith, nat_tests)

or_true : (b : Bool) → true ≡ (b || true)
or_true true = refl
or_true false = refl

pub told_some : (s n : ℕ) (old new : List (Option ℕ)) (a b : List (Vec (ℕ × ℕ) Global)) → ((i : ℕ) → at new i ≡ (if i == s then Some n else at old i)) → RowAdded (s / 64) (s, n) a b → IsTold (Some s) n old new a b
told_some s n old new a b marks added = record {
  kept = added.kept;
  only = λ j p h. elim (added.only j p h) [ inl was ↦ inl was | inr (row', is) ↦ inr (s, refl, row', is) ];
  there = λ r e. subst (λ x. Contains (row b (x / 64)) (x, n)) (sym (is_same s r e)) added.there;
  marked = λ r. elim (cases_eq r s) [
    | inl e ↦ rw (marks r, e, is_itself s, is_itself n) (or_true (is_some_of (at old s) n))
    | inr other ↦ rw (marks r, is_other r s (λ e. other (sym e)), is_other s r other) (or_none (is_some_of (at old r) n))
  ];
  unmarked = λ r c lt e. elim (cases_eq r s) [
    | inl same ↦ rw (marks r, same, is_itself s) (is_other n c (λ x. omega arith))
    | inr other ↦ rw (marks r, is_other r s (λ x. other (sym x))) e
  ];
}

-- ---- one instruction more

module _ (f : Function) (n k : ℕ) (i : Instr) (stands : slice_get (code_of f n) k ≡ Some i) where
  assigns_now : (r : ℕ) → assigns r (take (k + 1) (code_of f n)) ≡ (assigns r (take k (code_of f n)) || is_result r i.result)
  unfolding assigns
  assigns_now r =
      let lt : k < length (code_of f n) = slice_get_within (code_of f n) k i stands in
      list_any_more (λ (x : Instr). is_result r x.result) (code_of f n) k i lt ∙ ap (λ (x : Instr). list_any (λ (y : Instr). is_result r y.result) (take k (code_of f n)) || is_result r x.result) (get_or_from_slice_get (code_of f n) k i i stands)

  assigns_whole : (r : ℕ) → is_result r i.result ≡ true → assigns r (code_of f n) ≡ true
  unfolding assigns
  assigns_whole r e = list_any_at (λ (x : Instr). is_result r x.result) (code_of f n) k i (slice_get_within (code_of f n) k i stands) (ap (λ (x : Instr). is_result r x.result) (get_or_from_slice_get (code_of f n) k i i stands) ∙ e)

  uses_now : uses_at f n k ≡ uses i.op
  unfolding uses_at
  uses_now = ap uses_in stands

  phi_uses_now : phi_uses_at f n k ≡ phi_uses i.op
  unfolding phi_uses_at
  phi_uses_now = ap phi_uses_in stands

or_falses : (a b : Bool) → a ≡ false → b ≡ false → (a || b) ≡ false
or_falses true b p q = p
or_falses false b p q = q

left_false : (a b : Bool) → (a || b) ≡ false → a ≡ false
left_false true b p = p
left_false false b p = refl

right_false : (a b : Bool) → (a || b) ≡ false → b ≡ false
right_false true b p = cc
right_false false b p = p

one_of : (a b : Bool) → (a || b) ≡ true → (a ≡ true) ⊎ (b ≡ true)
one_of true b p = inl refl
one_of false b p = inr p

module _ (f : Function) (n k : ℕ) (i : Instr) (labels : List (Option ℕ)) (needs needs' : List (Vec Need Global)) (as' as'' : List (Vec (ℕ × ℕ) Global)) (marks marks' : List (Option ℕ))
    (stands : slice_get (code_of f n) k ≡ Some i) (known : IsLabels f labels) (some : n < length f.blocks) (inside : (l b : ℕ) → block_of f l ≡ Some b → b < length f.blocks)
    (notes : Notes f needs as' marks n k)
    (gathered : Gathers (λ u. IsHere (uses i.op) marks (n, k) u ⊎ IsThere labels (phi_uses i.op) (n, k) u) needs needs') (told : IsTold i.result n marks marks' as' as'') where
  need_here : (j : ℕ) (u : Need) → u.register / 64 ≡ j → IsHere (uses i.op) marks (n, k) u → IsNeed f j u
  need_here j u row' h = subst (λ v. IsNeed f j v) (sym h.need) (record {
    row = subst (λ (v : Need). v.register / 64 ≡ j) h.need row';
    block = some;
    stands = λ m. inl (record {
      before = m.before;
      register = h.register;
      path = m.path;
      used = subst (λ xs. Contains xs h.register) (sym (uses_now f n k i stands)) h.used;
      missed = or_falses _ _ m.missed (sym (notes.marked h.register) ∙ h.unmarked);
    });
  })

  need_there : (j : ℕ) (u : Need) → u.register / 64 ≡ j → IsThere labels (phi_uses i.op) (n, k) u → IsNeed f j u
  need_there j u row' h = subst (λ v. IsNeed f j v) (sym h.need) (record {
    row = subst (λ (v : Need). v.register / 64 ≡ j) h.need row';
    block = inside h.label h.block (sym (known h.label) ∙ h.leads);
    stands = λ m. inr (record {
      before = m.before;
      register = h.register;
      label = h.label;
      block = h.block;
      used = subst (λ xs. Contains xs (h.register, h.label)) (sym (phi_uses_now f n k i stands)) h.used;
      leads = sym (known h.label) ∙ h.leads;
      path = m.path;
      missed = m.missed;
    });
  })

  kept_noted : (c x : ℕ) → IsNoted f needs c x → IsNoted f needs' c x
  kept_noted c x h = record { need = h.need; noted = gathered.kept (h.need.register / 64) h.need h.noted; at_block = h.at_block; at_place = h.at_place; missed = h.missed }

  noted_here : MissesHere f n k → IsNoted f needs' n k
  noted_here m = record {
    need = here m.register (n, k);
    noted = gathered.all (here m.register (n, k)) (inl (record {
      register = m.register;
      used = subst (λ xs. Contains xs m.register) (uses_now f n k i stands) m.used;
      unmarked = notes.marked m.register ∙ right_false (assigned f m.before m.register) _ m.missed;
      need = refl;
    }));
    at_block = refl;
    at_place = refl;
    missed = record { before = m.before; path = m.path; missed = left_false (assigned f m.before m.register) _ m.missed };
  }

  noted_there : MissesAtEnd f n k → IsNoted f needs' n k
  noted_there m = record {
    need = there m.register m.block (n, k);
    noted = gathered.all (there m.register m.block (n, k)) (inr (record {
      register = m.register;
      label = m.label;
      block = m.block;
      used = subst (λ xs. Contains xs (m.register, m.label)) (phi_uses_now f n k i stands) m.used;
      leads = known m.label ∙ m.leads;
      need = refl;
    }));
    at_block = refl;
    at_place = refl;
    missed = record { before = m.before; path = m.path; missed = m.missed };
  }

  noted_now : IsUnassigned f n k → IsNoted f needs' n k
  noted_now (inl m) = noted_here m
  noted_now (inr m) = noted_there m

  noted_more : (c x : ℕ) → IsBefore c x n (k + 1) → IsUnassigned f c x → IsNoted f needs' c x
  noted_more c x (inl earlier) un = kept_noted c x (notes.noted c x (inl earlier) un)
  noted_more c x (inr (same, le)) un = elim (cases_lt x k) [
    | inl lt ↦ kept_noted c x (notes.noted c x (inr (same, lt)) un)
    | inr ge ↦
        let at_place : x ≡ k = omega arith in
        subst (λ d. IsNoted f needs' d x) (sym same) (subst (λ y. IsNoted f needs' n y) (sym at_place) (noted_now (subst (λ y. IsUnassigned f n y) at_place (subst (λ d. IsUnassigned f d x) same un))))
  ]

  made_more : (j : ℕ) (p : ℕ × ℕ) → Contains (row as'' j) p → IsAssignment f j p
  made_more j p h = elim (told.only j p h) [
    | inl was ↦ notes.made j p was
    | inr (r, is, row', same) ↦ subst (λ q. IsAssignment f j q) (sym same) (record { row = sym row'; block = some; assigns = assigns_whole f n k i stands r (ap (is_result r) is ∙ is_itself r) })
  ]

  pub notes_more : Notes f needs' as'' marks' n (k + 1)
  notes_more = record {
    stand = λ j u h. elim (gathered.only j u h) [ inl was ↦ notes.stand j u was | inr (row', wanted) ↦ elim wanted [ inl w ↦ need_here j u row' w | inr w ↦ need_there j u row' w ] ];
    noted = noted_more;
    made = made_more;
    told = λ r c lt a. told.kept (r / 64) (r, c) (notes.told r c lt a);
    so_far = λ r a. elim (one_of _ _ (sym (assigns_now f n k i stands r) ∙ a)) [
      | inl early ↦ told.kept (r / 64) (r, n) (notes.so_far r early)
      | inr now ↦ told.there r now
    ];
    marked = λ r. told.marked r ∙ (ap (λ b. b || is_result r i.result) (notes.marked r) ∙ sym (assigns_now f n k i stands r));
    unmarked = λ r c lt. told.unmarked r c lt (notes.unmarked r c lt);
  }

-- ---- one block more, and the beginning

take_nothing : {X : Type 0} (xs : List X) → take 0 xs ≡ []
take_nothing xs = refl

pub none_past : (f : Function) (c x : ℕ) → length (code_of f c) ≤ x → IsUnassigned f c x → ⊥
unfolding uses_at phi_uses_at
none_past f c x past (inl m) = no_element m.register (subst (λ o. Contains (uses_in o) m.register) (slice_get_past (code_of f c) x past) m.used)
none_past f c x past (inr m) = no_element (m.register, m.label) (subst (λ o. Contains (phi_uses_in o) (m.register, m.label)) (slice_get_past (code_of f c) x past) m.used)

assigns_nothing : (r : ℕ) → assigns r [] ≡ false
unfolding assigns
assigns_nothing r = refl

same_block : (n c x : ℕ) → IsBefore c x (n + 1) 0 → n ≤ c → c ≡ n
same_block n c x (inl lt) ge = omega arith
same_block n c x (inr (e, lt)) ge = absurd (omega arith)

not_before : (c x : ℕ) → IsBefore c x 0 0 → ⊥
not_before c x (inl lt) = omega arith
not_before c x (inr (e, lt)) = omega arith

pub notes_next : (f : Function) (needs : List (Vec Need Global)) (as' : List (Vec (ℕ × ℕ) Global)) (marks : List (Option ℕ)) (n k : ℕ) → length (code_of f n) ≤ k → Notes f needs as' marks n k → Notes f needs as' marks (n + 1) 0
notes_next f needs as' marks n k past notes = record {
  stand = notes.stand;
  noted = λ c x before un. elim (cases_lt c n) [
    | inl lt ↦ notes.noted c x (inl lt) un
    | inr ge ↦ elim (cases_lt x k) [
      | inl lt ↦ notes.noted c x (inr (same_block n c x before ge, lt)) un
      | inr out ↦ absurd (none_past f c x (subst (λ d. length (code_of f d) ≤ x) (sym (same_block n c x before ge)) (omega arith)) un)
    ]
  ];
  made = notes.made;
  told = λ r c lt a. elim (cases_lt c n) [
    | inl early ↦ notes.told r c early a
    | inr ge ↦
        let same : c ≡ n = omega arith in
        subst (λ d. Contains (row as' (r / 64)) (r, d)) (sym same) (notes.so_far r (rw (take_all k (code_of f n) past) (subst (λ d. assigns r (code_of f d) ≡ true) same a)))
  ];
  so_far = λ r a. absurd (false≢true (sym (assigns_nothing r) ∙ a));
  marked = λ r. notes.unmarked r (n + 1) (omega arith) ∙ sym (assigns_nothing r);
  unmarked = λ r c lt. notes.unmarked r c (omega arith);
}

pub notes_start : (f : Function) (needs : List (Vec Need Global)) (as' : List (Vec (ℕ × ℕ) Global)) (marks : List (Option ℕ)) → needs ≡ [] → as' ≡ [] → marks ≡ [] → Notes f needs as' marks 0 0
unfolding row
notes_start f needs as' marks no_needs no_as no_marks = record {
  stand = λ j u h. absurd (no_element u (subst (λ rows. Contains (row rows j) u) no_needs h));
  noted = λ c x before un. absurd (not_before c x before);
  made = λ j p h. absurd (no_element p (subst (λ rows. Contains (row rows j) p) no_as h));
  told = λ r c lt a. absurd (omega arith);
  so_far = λ r a. absurd (false≢true (sym (assigns_nothing r) ∙ a));
  marked = λ r. ap (λ m. is_some_of (at m r) 0) no_marks ∙ sym (assigns_nothing r);
  unmarked = λ r c lt. ap (λ m. is_some_of (at m r) c) no_marks;
}

pub step_is : (i : Instr) (labels : List (Option ℕ)) (user : ℕ × ℕ) (old new : Notebook) (xs : List ℕ) (marks : List (Option ℕ)) (ps : List (ℕ × ℕ)) (mid : List (Vec Need Global))
    → xs ≡ uses i.op → marks ≡ old.marks.items → ps ≡ phi_uses i.op → Gathers (IsHere xs marks user) old.needs.items mid → Gathers (IsThere labels ps user) mid new.needs.items
    → IsTold i.result user.0 old.marks.items new.marks.items old.assignments.items new.assignments.items → IsStep i labels user old new
step_is i labels user old new xs marks ps mid are marked ends g h told = record {
  needs = gathers_then (IsHere (uses i.op) old.marks.items user) (IsThere labels (phi_uses i.op) user) old.needs.items mid new.needs.items
      (subst (λ us. Gathers (IsHere us old.marks.items user) old.needs.items mid) are (subst (λ ms. Gathers (IsHere xs ms user) old.needs.items mid) marked g))
      (subst (λ us. Gathers (IsThere labels us user) mid new.needs.items) ends h);
  result = told;
}

pub code_is : (f : Function) (b : ℕ) (block : Block) → b < length f.blocks → block ≡ get_or f.blocks b block → code_of f b ≡ block.instrs
unfolding code_of
code_is f b block within is = ap code_in (slice_get_read f.blocks (length f.blocks) b block refl within is)

first_inside : (blocks : List Block) (n l b : ℕ) → first_from n blocks l ≡ Some b → b < n + length blocks
first_inside [] n l b e = absurd (none-some b e)
first_inside (block ∷ others) n l b e = elim (cases_Bool (block.label == l)) [
  | inl equal ↦ let is : n ≡ b = same_Some n b (ap (λ t. if t then Some n else first_from (n + 1) others l) (sym equal) ∙ e) in omega arith
  | inr no' ↦ let later : b < n + 1 + length others = first_inside others (n + 1) l b (ap (λ t. if t then Some n else first_from (n + 1) others l) (sym no') ∙ e) in omega arith
]

pub block_inside : (f : Function) (l b : ℕ) → block_of f l ≡ Some b → b < length f.blocks
unfolding block_of
block_inside f l b e = let lt : b < 0 + length f.blocks = first_inside f.blocks 0 l b e in omega arith

-- ---- successors

same_filter : {X Y : Type 0} (g h : X → Option Y) → ((x : X) → g x ≡ h x) → (xs : List X) → filter_map g xs ≡ filter_map h xs
same_filter g h same [] = refl
same_filter g h same (x ∷ xs) = rw (same x, same_filter g h same xs) refl

pub successors_is : (f : Function) (labels : List (Option ℕ)) (b : ℕ) (code : List Instr) → IsLabels f labels → code_of f b ≡ code → filter_map (at labels) (exits_in (slice_get code (length code - 1))) ≡ successors f b
unfolding successors exits
successors_is f labels b code known is =
    same_filter (at labels) (block_of f) known (exits_in (slice_get code (length code - 1)))
    ∙ ap (λ (is : List Instr). filter_map (block_of f) (exits_in (slice_get is (length is - 1)))) (sym is)

pub code_past : (f : Function) (b : ℕ) → length f.blocks ≤ b → code_of f b ≡ []
unfolding code_of
code_past f b past = ap code_in (slice_get_past f.blocks b past)

pub no_successors : (f : Function) (b : ℕ) → length f.blocks ≤ b → successors f b ≡ []
unfolding successors exits
no_successors f b past = ap (λ (is : List Instr). filter_map (block_of f) (exits_in (slice_get is (length is - 1)))) (code_past f b past)

filtered : (f : Function) (o : Option ℕ) → ((b : ℕ) → o ≡ Some b → b < length f.blocks) → (rest : List ℕ) → All (λ b. b < length f.blocks) rest → All (λ b. b < length f.blocks) (cons_option o rest)
filtered f None inside rest all = all
filtered f (Some b) inside rest all = All-cons (λ b. b < length f.blocks) b rest (inside b refl) all

filter_inside : (f : Function) (ls : List ℕ) → All (λ b. b < length f.blocks) (filter_map (block_of f) ls)
filter_inside f [] = All-nil (λ b. b < length f.blocks)
filter_inside f (l ∷ ls) = filtered f (block_of f l) (block_inside f l) (filter_map (block_of f) ls) (filter_inside f ls)

pub successors_inside : (f : Function) (b : ℕ) → All (λ c. c < length f.blocks) (successors f b)
unfolding successors
successors_inside f b = filter_inside f (exits f b)

pub labels_are : (f : Function) (labels table : List (Option ℕ)) (blocks : List Block) → labels ≡ table → blocks ≡ f.blocks → ((l : ℕ) → at table l ≡ first_from 0 blocks l) → IsLabels f labels
unfolding block_of
labels_are f labels table blocks same are found = λ l. ap (λ t. at t l) same ∙ (found l ∙ ap (λ (bs : List Block). first_from 0 bs l) are)
