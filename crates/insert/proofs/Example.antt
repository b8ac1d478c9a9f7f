-- The broken sample store, by one computation; and the untaken page, by its last word.
use mathlib.Core.Path.{refl, ap}
use native.Mathlib.Omega.{arith}
use lib.ListN.{get_or}
use Rattle.plot.specs.Plot.{lawful, is_word, lawful_term, lawful_day}
use Rattle.lists.specs.Bits.{bit}
use Rattle.lists.specs.Lists.{replaced, part, tab, every, greatest}
use Rattle.lists.specs.Keyed.{contains, insert}
use Rattle.tree.specs.Build.{rounds, pages_at}
use Rattle.tree.specs.Carry.{bump, bump_cost}
use Rattle.tree.specs.Book.{log_below, level_bound}
use Rattle.store.specs.Format.{width, words}
use Rattle.store.specs.Head.{zeros, head_of, node_words, page_words, size, node_start, page_start, page_at, lawful_sizes, lawful_counts, head_rule}
use Rattle.node.specs.Node.{run_rule, good_runs, link_rule, pointer_low, pointer_high, node_rule, entry_number}
use Rattle.page.specs.Page.{item_at, item_words, flat, lawful_item, ordered, page_rule, agrees}
use Rattle.page.specs.Schema.{unlawful}
use Rattle.search.specs.Descent.{no_steps, damaged_node, entry_visit, step_of, lost, step_taken, descend, descent}
use Rattle.search.specs.Find.{sound_page}
use Rattle.represent.specs.Image.{page_image}
use Rattle.represent.specs.Example.{stored}
use Rattle.split.specs.Frame.{put_node, put_page, put_head}
use Rattle.store.specs.Head.{released_of, named, lawful_released}
use Rattle.store.specs.Released.{node_form, page_form, chain_ok, link_ok, member, nodes_ok, pages_ok, next_node, node_taken, next_page, page_taken}
use Rattle.split.specs.Round.{grown, climb, round}
use Rattle.split.specs.Block.{kept, block, over_run, halves, halve_run, double, grow}
use Rattle.insert.specs.Enter.{items_in, own_items, own_passes, neighbour_ok, path_in, parted, round_of, placed, rounds_for, plan_of, done}
use Rattle.store.specs.Tests.{failing}
use Rattle.store.specs.Head.{node_at}
use Rattle.insert.specs.Enter.{way_of, undamaged, entered_words, enter_of}
use Rattle.insert.specs.Example.{NeighbourTested, ClearedBreaks}

pub neighbour_tested : NeighbourTested
unfolding stored lawful is_word lawful_term lawful_day bit replaced part tab every greatest contains insert rounds pages_at bump bump_cost
    log_below
    level_bound width words zeros head_of node_words page_words size node_start page_start page_at lawful_sizes lawful_counts head_rule
    run_rule
    good_runs link_rule pointer_low pointer_high node_rule entry_number item_at lawful_item ordered page_rule agrees no_steps damaged_node entry_visit
    step_of lost step_taken descend descent sound_page item_words flat page_image node_at put_node put_page put_head released_of named lawful_released node_form page_form chain_ok link_ok member nodes_ok pages_ok next_node
    node_taken next_page page_taken grown climb
    round kept block over_run halves halve_run double grow unlawful items_in own_items own_passes neighbour_ok path_in parted round_of placed
    rounds_for plan_of done failing way_of undamaged entered_words enter_of
neighbour_tested = (refl, refl)

pub cleared_breaks : ClearedBreaks
unfolding stored head_of node_words page_start page_words page_at part words
cleared_breaks path page behind ns ps far off z =
    omega (arith, ap (λ ws. get_or ws 4 0) (z.page_same 4 (omega arith) (omega arith) off far))
