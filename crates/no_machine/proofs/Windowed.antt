-- A window that is part of slots.
use Rattle.std.proofs.Common.{◌≡◌, ℕ, ◌-◌, List, length, take, drop, sym, ap, ◌∙◌}
use Rattle.std.proofs.lemmas.List.{take_rest}

pub window_of : (base : ℕ) (slots new window : List ℕ) → length new ≡ length slots → take (length slots - base) (drop base new) ≡ window → window ≡ drop base new
window_of base slots new window long is = sym is ∙ ap (λ (n : ℕ). take (n - base) (drop base new)) (sym long) ∙ take_rest new base
