use Rattle.std.proofs.Common.{◌≡◌, ◌∙◌, ℕ, ap, sym, List, length}
use Rattle.byteorder.specs.Endian.{big_from, little_from}
use Rattle.no_layout.specs.Laws.{big_same, little_same}
use Rattle.no_layout.specs.Orders.{big_of, little_of}
use Rattle.no_layout.specs.Width.{width_of}
use Rattle.no_layout.proofs.width.get_number.Goals as goal

big_read : (n : ℕ) (bs : List ℕ) → length bs ≡ n → big_from 0 n bs ≡ big_of bs
big_read n bs e = ap (λ (k : ℕ). big_from 0 k bs) (sym e) ∙ big_same bs

little_read : (n : ℕ) (bs : List ℕ) → length bs ≡ n → little_from 0 n bs ≡ little_of bs
little_read n bs e = ap (λ (k : ℕ). little_from 0 k bs) (sym e) ∙ little_same bs

pub returns-in-Eight : goal.returns-in-Eight
returns-in-Eight c = rw c.if-big-3.true (c.read_u64.ensures ∙ big_read 8 c.args.bytes.now (c.requires ∙ ap width_of c.in-Eight.is))

pub returns-in-Eight-2 : goal.returns-in-Eight-2
returns-in-Eight-2 c = rw c.if-big-3.false (c.read_u64-in-Eight-2.ensures ∙ little_read 8 c.args.bytes.now (c.requires ∙ ap width_of c.in-Eight.is))
