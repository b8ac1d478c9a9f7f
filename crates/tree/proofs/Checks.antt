-- The desk checks hold: antt computes each row of the table.
use mathlib.Core.Path.{◌≡◌, refl}
use mathlib.Core.Bool.{true}
use Rattle.plot.specs.Plot.{lawful, is_word, lawful_term, lawful_day}
use Rattle.plot.specs.Money.{days_left, amount, balance_reply}
use Rattle.plot.specs.Label.{lawful_label, pack, key_of_reply}
use Rattle.lists.specs.Bits.{bit}
use Rattle.lists.specs.Lists.{all}
use Rattle.lists.specs.Keyed.{contains, insert}
use Rattle.tree.specs.Tower.{cut, tower}
use Rattle.tree.specs.Build.{build}
use Rattle.tree.specs.Book.{fits, entered, book, log_below, level_bound}
use Rattle.tree.specs.Checks.{holds, table}

pub checks : all holds table ≡ true
unfolding holds table lawful is_word lawful_term lawful_day days_left amount balance_reply lawful_label pack key_of_reply bit contains insert cut
    tower build fits entered book log_below level_bound
checks = refl
