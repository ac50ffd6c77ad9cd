use Rattle.std.proofs.Common.{◌≡◌, ◌∙◌, ◌+◌, ◌-◌, ◌/◌, ◌%◌, ℕ, List, length, take, drop, ap, sym, arith}
use Rattle.no_pages.specs.Table.{list_at}
use Rattle.no_pages.proofs.Paged.{read_from}
use Rattle.no_pages.proofs.memory.PageTableMemory.slice.Goals as goal

pub returns : goal.returns
returns c =
    let o = c.args.addr % 4096 in
    let n = c.args.len in
    let len : length c.bytes-bytes.result.now ≡ 4096 = omega arith in
    let count : o + n - o ≡ n = omega arith in
    ap (λ (k : ℕ). take k (drop o c.bytes-bytes.result.now)) count
    ∙ ap (λ (l : List ℕ). take n (drop o l)) c.bytes-bytes.ensures
    ∙ sym (read_from (list_at c.args.self.now) (c.args.addr / 4096) o n c.args.addr (omega arith) c.requires.page (ap length (sym c.bytes-bytes.ensures) ∙ len))
