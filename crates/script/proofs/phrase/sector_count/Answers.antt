use Rattle.script.proofs.Numbers.{too_many}
use Rattle.script.proofs.phrase.sector_count.Goals as goal

pub returns-then-sectors-gt-MOST_SECTORS : goal.returns-then-sectors-gt-MOST_SECTORS
returns-then-sectors-gt-MOST_SECTORS c = too_many c.args.word.now c.in_ok-sectors.sectors c.in_ok-sectors.ensures c.if-sectors-gt-MOST_SECTORS.true
