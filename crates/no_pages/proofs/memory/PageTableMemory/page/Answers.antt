use Rattle.std.proofs.Common.{◌≡◌, ◌∙◌, length, ap, sym, arith}
use Rattle.no_pages.specs.Table.{list_at}
use Rattle.no_pages.proofs.Paged.{read_whole}
use Rattle.no_pages.proofs.memory.PageTableMemory.page.Goals as goal

pub returns : goal.returns
returns c =
    let len : length c.bytes-bytes.result.now ≡ 4096 = omega arith in
    c.bytes-bytes.ensures ∙ sym (read_whole (list_at c.args.self.now) c.args.page (ap length (sym c.bytes-bytes.ensures) ∙ len))
