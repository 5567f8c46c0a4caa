-- What is gathered is nothing exactly if each part is as it should be (`words_by_one`).
use lib.ListN.{get_or}
use Rattle.tables.specs.Quick.Values.{strays_in}
use Rattle.tables.specs.Laws.Values.{words_by_one}
use Rattle.tables.proofs.values.Words.fit.Goals as goal

pub returns : goal.returns
returns c =
    let w = c.args.self in
    rw (c.unset.ensures, c.unset-2.ensures, c.unset-3.ensures, c.strays.ensures)
    (words_by_one (strays_in c.args.shape w.header) w.header (get_or w.values 0 0) (get_or w.values 1 0) (get_or w.values 2 0) (get_or w.values 3 0))
