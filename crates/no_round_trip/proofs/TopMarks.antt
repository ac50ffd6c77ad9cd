-- What attributes set on a function is set again.
use Rattle.std.proofs.Common.{◌≡◌, ℕ, ◌≤◌, Bool, true, false, ◌&&◌, ◌==◌, List, [], ◌∷◌, ◌++◌, codes, bytes_eq, decimal, Option, Some, None, Ok, Err, if◌then◌else◌, inl, inr, refl, sym, ap, subst, ◌∙◌, append-nil, arith}
use Rattle.no_lex.specs.declared.token.Token.{Token}
use Rattle.no_lex.specs.declared.token.TokenKind.{TokenKind}
use Rattle.no_lex.specs.declared.token.TokenKind.TheVariants as kind
use Rattle.no_ir.specs.declared.function.Role.{Role}
use Rattle.no_ir.specs.declared.function.Role.TheVariants.{Source, Part}
use Rattle.no_read_rules.specs.declared.fault.Flaw.TheVariants.{Syntax}
use Rattle.no_read_rules.specs.Rules.{keeping}
use Rattle.no_read_rules.specs.Spelled.{spelled, kind_number}
use Rattle.no_read_rules.specs.Unescaped.{unescaped, inner}
use Rattle.no_read_attributes.specs.declared.attribute.Attribute.{Attribute}
use Rattle.no_read_attributes.specs.declared.attribute.Attribute.TheVariants as attribute
use Rattle.no_read_attributes.specs.declared.attribute.AttributeHead.TheVariants as head
use Rattle.no_read_attributes.specs.declared.marks.Mark.{Mark}
use Rattle.no_read_attributes.specs.declared.marks.Mark.TheVariants as mark
use Rattle.no_read_attributes.specs.Attributes.{begins_by, begins_attribute, head_by, attribute_head, value_tail, an_attribute, more_attribute, all_attributes, says, at_address, address_of, address_mark, pair_mark, mark_of, listed, all_marks, attribute_marks}
use Rattle.no_print.specs.Modules.{bound_pieces, address_pieces}
use Rattle.no_print.specs.Names.{quoted}
use Rattle.no_print.specs.Pieces.{glued, spaced}
use Rattle.no_print.specs.Stand.{IsPiece, Stand}
use Rattle.no_round_trip.specs.Spells.{Spells}
use Rattle.no_round_trip.proofs.RuleListing.{sign_spells}
use Rattle.no_names.proofs.Again.{string_again}
use Rattle.no_round_trip.proofs.RuleStanding.{stand_none}
use Rattle.no_round_trip.proofs.TopAmounts.{address_most, address_again, decimal_bytes}
use Rattle.no_round_trip.proofs.TopSteps.{tested}

-- ---- addresses that may be set

-- in a server's part a number of 32 bits, in a source none
abbrev pub MayStand : Role → Option ℕ → Type 0
MayStand role None = Unit {0}
MayStand Source (Some n) = ⊥
MayStand Part (Some n) = n ≤ 4294967295

abbrev pub MaySet : Role → Mark → Type 0
MaySet role mark.Bound = Unit {0}
MaySet role (mark.Address n) = MayStand role (Some n)
MaySet role (mark.Group token) = Unit {0}

abbrev pub AllSet : Role → List Mark → Type 0
AllSet role [] = Unit {0}
AllSet role (m ∷ marks) = MaySet role m × AllSet role marks

pub all_append : (role : Role) (a b : List Mark) → AllSet role a → AllSet role b → AllSet role (a ++ b)
all_append role [] b x y = y
all_append role (m ∷ a) b x y = (x.0, all_append role a b x.1 y)

at_may : (o : Option ℕ) → ((n : ℕ) → o ≡ Some n → n ≤ 4294967295) → AllSet Part (listed (at_address o))
at_may None h = tt
at_may (Some n) h = (h n refl, tt)

address_may : (role : Role) (value : List ℕ) → AllSet role (listed (address_mark role value))
address_may Source value = tt
address_may Part value = at_may (address_of value) (λ n e. address_most value n e)

mark_may : (text : List ℕ) (role : Role) (a : Attribute) → AllSet role (listed (mark_of text role a))
mark_may text role attribute.Word = tt
mark_may text role attribute.Align = tt
mark_may text role attribute.Closed = tt
mark_may text role (attribute.Text key) = by (says text key (codes "machine-bound"))
  where
    by : (b : Bool) → AllSet role (listed (if b then Some mark.Bound else None))
    by true = (tt, tt)
    by false = tt
mark_may text role (attribute.Pair key value) = by (says text key (codes "machine-bound")) (says text key (codes "no.addr"))
  where
    by : (b c : Bool) → AllSet role (listed (if b then Some mark.Bound else (if c then address_mark role (unescaped (inner (spelled text value))) else None)))
    by true c = (tt, tt)
    by false true = address_may role (unescaped (inner (spelled text value)))
    by false false = tt
mark_may text role (attribute.Group group) = (tt, tt)

marks_may : (text : List ℕ) (role : Role) (all : List Attribute) → AllSet role (all_marks text role all)
marks_may text role [] = tt
marks_may text role (a ∷ all) = all_append role (listed (mark_of text role a)) (all_marks text role all) (mark_may text role a) (marks_may text role all)

pub read_may : (text : List ℕ) (role : Role) (tokens : List Token) (marks : List Mark) → (attribute_marks text role).means tt tokens marks tt → AllSet role marks
read_may text role tokens marks m = subst (AllSet role) (sym m.in_back.1) (marks_may text role m.first)

-- ---- the attributes that are printed

abbrev pub bound_marks : Bool → List Mark
bound_marks false = []
bound_marks true = mark.Bound ∷ []

abbrev pub address_marks : Option ℕ → List Mark
address_marks None = []
address_marks (Some n) = mark.Address n ∷ []

module _ (text : List ℕ) (role : Role) where
  -- tokens are attributes that set these marks
  record Sets (tokens : List Token) (marks : List Mark) : Type 0 where
    pub all : List Attribute
    pub meant : (all_attributes text).means tt tokens all tt
    pub set : all_marks text role all ≡ marks

  nothing_set : Sets [] []
  nothing_set = record { all = []; meant = inr (refl, (refl, refl, refl)); set = refl }

  one_set : (front back : List Token) (a : Attribute) (m : Mark) (marks : List Mark) → (more_attribute text).means tt front (Some a) tt → mark_of text role a ≡ Some m → Sets back marks → Sets (front ++ back) (m ∷ marks)
  one_set front back a m marks item is more = record {
    all = a ∷ more.all;
    meant = record { front = front; back = back; between = tt; parts = refl; item = item; others = more.meant };
    set = ap (λ (o : Option Mark). listed o ++ all_marks text role more.all) is ∙ ap (λ (l : List Mark). m ∷ l) more.set;
  }

  -- a string alone
  string_head : (t : Token) (bytes : List ℕ) → IsPiece text t (record { gap = spaced; kind = kind.Quoted; bytes = bytes })
      → (begins_attribute text t ≡ true) × (keeping {S = Unit {0}} tt (attribute_head text t) ≡ Ok (head.Text t, tt))
  string_head t bytes h = (ap (λ k. begins_by k (spelled text t)) h.kind, ap (λ k. keeping tt (head_by k (spelled text t) t)) h.kind)

  lone_item : (t : Token) (bytes : List ℕ) → IsPiece text t (record { gap = spaced; kind = kind.Quoted; bytes = bytes }) → (more_attribute text).means tt (t ∷ []) (Some (attribute.Text t)) tt
  unfolding an_attribute
  lone_item t bytes h =
      let s = string_head t bytes h in
      inl (
        s.0,
        record {
          front = t ∷ [];
          back = [];
          first = attribute.Text t;
          between = tt;
          parts = refl;
          in_front = record {
            front = t ∷ [];
            back = [];
            first = head.Text t;
            between = tt;
            parts = refl;
            in_front = record { token = t; alone = refl; value = s.1 };
            in_back = inr (refl, (refl, refl, refl));
          };
          in_back = (refl, refl, refl);
        },
      )

  -- a string and its value
  value_item : (e v : Token) (bytes : List ℕ) → IsPiece text e (record { gap = glued; kind = kind.Sign; bytes = codes "=" }) → IsPiece text v (record { gap = glued; kind = kind.Quoted; bytes = bytes })
      → (value_tail text).means tt (e ∷ v ∷ []) v tt
  unfolding value_tail
  value_item e v bytes he hv = record {
    front = e ∷ [];
    back = v ∷ [];
    first = tt;
    between = tt;
    parts = refl;
    in_front = sign_spells text glued tt (codes "=") refl (e ∷ []) (he, tt);
    in_back = record {
      front = v ∷ [];
      back = [];
      first = v;
      between = tt;
      parts = refl;
      in_front = record { token = v; alone = refl; value = ap (λ k. keeping tt (if kind_number k == kind_number kind.Quoted then Ok v else Err Syntax)) hv.kind };
      in_back = (refl, refl, refl);
    };
  }

  pair_item : (t e v : Token) (key bytes : List ℕ) → IsPiece text t (record { gap = spaced; kind = kind.Quoted; bytes = key }) → IsPiece text e (record { gap = glued; kind = kind.Sign; bytes = codes "=" })
      → IsPiece text v (record { gap = glued; kind = kind.Quoted; bytes = bytes }) → (more_attribute text).means tt (t ∷ e ∷ v ∷ []) (Some (attribute.Pair t v)) tt
  unfolding an_attribute
  pair_item t e v key bytes ht he hv =
      let s = string_head t key ht in
      inl (
        s.0,
        record {
          front = t ∷ e ∷ v ∷ [];
          back = [];
          first = attribute.Pair t v;
          between = tt;
          parts = refl;
          in_front = record {
            front = t ∷ [];
            back = e ∷ v ∷ [];
            first = head.Text t;
            between = tt;
            parts = refl;
            in_front = record { token = t; alone = refl; value = s.1 };
            in_back = inl (
              tested text equals_by e (record { gap = glued; kind = kind.Sign; bytes = codes "=" }) he,
              record { front = e ∷ v ∷ []; back = []; first = v; between = tt; parts = refl; in_front = value_item e v bytes he hv; in_back = (refl, refl, refl) },
            );
          };
          in_back = (refl, refl, refl);
        },
      )
    where
      equals_by : TokenKind → List ℕ → Bool
      equals_by k b = (kind_number k == kind_number kind.Sign) && bytes_eq b (codes "=")

  -- ---- what they set

  bound_is : (t : Token) → IsPiece text t (record { gap = spaced; kind = kind.Quoted; bytes = quoted (codes "machine-bound") }) → mark_of text role (attribute.Text t) ≡ Some mark.Bound
  bound_is t h = ap (λ bytes. if bytes_eq (unescaped (inner bytes)) (codes "machine-bound") then Some mark.Bound else None) h.bytes

  pair_by : List ℕ → List ℕ → Option Mark
  pair_by key value =
      if bytes_eq (unescaped (inner key)) (codes "machine-bound") then Some mark.Bound
      else (if bytes_eq (unescaped (inner key)) (codes "no.addr") then address_mark role (unescaped (inner value)) else None)

  address_is : (t v : Token) (n : ℕ) → role ≡ Part → n ≤ 4294967295 → IsPiece text t (record { gap = spaced; kind = kind.Quoted; bytes = quoted (codes "no.addr") })
      → IsPiece text v (record { gap = glued; kind = kind.Quoted; bytes = quoted (decimal n) }) → mark_of text role (attribute.Pair t v) ≡ Some (mark.Address n)
  unfolding pair_by
  address_is t v n part most ht hv =
      let keyed : pair_mark text role t v ≡ pair_by (quoted (codes "no.addr")) (spelled text v) = ap (λ key. pair_by key (spelled text v)) ht.bytes in
      let valued : pair_by (quoted (codes "no.addr")) (spelled text v) ≡ address_mark role (unescaped (inner (quoted (decimal n)))) = ap (λ value. address_mark role (unescaped (inner value))) hv.bytes in
      let number : address_mark role (unescaped (inner (quoted (decimal n)))) ≡ address_mark role (decimal n) = ap (address_mark role) (string_again (decimal n) (decimal_bytes n (omega arith))) in
      let of_part : address_mark role (decimal n) ≡ address_mark Part (decimal n) = ap (λ (r : Role). address_mark r (decimal n)) part in
      let found : address_mark Part (decimal n) ≡ Some (mark.Address n) = ap at_address (address_again n most) in
      keyed ∙ valued ∙ number ∙ of_part ∙ found

  is_part : (n : ℕ) → MayStand role (Some n) → (role ≡ Part) × (n ≤ 4294967295)
  is_part n h = by role h
    where
      by : (r : Role) → MayStand r (Some n) → (r ≡ Part) × (n ≤ 4294967295)
      by Source h = absurd h
      by Part h = (refl, h)

  address_sets : (o : Option ℕ) (tokens : List Token) → MayStand role o → Stand text tokens (address_pieces o) → Sets tokens (address_marks o)
  address_sets None tokens h stand = subst (λ l. Sets l []) (sym (stand_none text tokens stand)) nothing_set
  address_sets (Some n) [] h stand = absurd stand
  address_sets (Some n) (t ∷ []) h stand = absurd stand.1
  address_sets (Some n) (t ∷ e ∷ []) h stand = absurd stand.1.1
  address_sets (Some n) (t ∷ e ∷ v ∷ []) h stand =
      let p = is_part n h in
      one_set (t ∷ e ∷ v ∷ []) [] (attribute.Pair t v) (mark.Address n) [] (pair_item t e v (quoted (codes "no.addr")) (quoted (decimal n)) stand.0 stand.1.0 stand.1.1.0)
      (address_is t v n p.0 p.1 stand.0 stand.1.1.0) nothing_set
  address_sets (Some n) (t ∷ e ∷ v ∷ u ∷ tokens) h stand = absurd stand.1.1.1

  bound_sets : (b : Bool) (o : Option ℕ) (tokens : List Token) → MayStand role o → Stand text tokens (bound_pieces b ++ address_pieces o) → Sets tokens (bound_marks b ++ address_marks o)
  bound_sets false o tokens h stand = address_sets o tokens h stand
  bound_sets true o [] h stand = absurd stand
  bound_sets true o (t ∷ tokens) h stand =
      one_set (t ∷ []) tokens (attribute.Text t) mark.Bound (address_marks o) (lone_item t (quoted (codes "machine-bound")) stand.0) (bound_is t stand.0) (address_sets o tokens h stand.1)

  pub marks_spell : (b : Bool) (o : Option ℕ) → MayStand role o → Spells text (attribute_marks text role) tt (bound_pieces b ++ address_pieces o) (bound_marks b ++ address_marks o) tt
  marks_spell b o h tokens stand =
      let s = bound_sets b o tokens h stand in
      record { front = tokens; back = []; first = s.all; between = tt; parts = sym (append-nil tokens); in_front = s.meant; in_back = (refl, sym s.set, refl) }
