-- The rows hold: antt computes each.
use mathlib.Core.Bool.{true}
use mathlib.Core.Path.{◌≡◌, refl}
use Rattle.lists.specs.Lists.{all}
use Rattle.exports.specs.Reply.{size_values, enter_values, record_values, range_values, summary_values, balance_values, key_values, label_values}
use Rattle.exports.specs.Checks.{holds, table}

pub checks : all holds table ≡ true
unfolding holds table size_values enter_values record_values range_values summary_values balance_values key_values label_values
checks = refl
