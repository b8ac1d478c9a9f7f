-- What specs/Checks.antt says of damaged stores and specs/Example.antt of a sound one, by one computation. (The list has what an accepted
-- removal comes to, also where an edit lets a damaged store pass.)
use mathlib.Core.Path.{refl}
use Rattle.lists.specs.Bits.{bit}
use Rattle.lists.specs.Lists.{replaced, part, tab, every, greatest}
use Rattle.plot.specs.Plot.{is_word, lawful_day, lawful_term, lawful}
use Rattle.tree.specs.Book.{log_below, level_bound}
use Rattle.store.specs.Format.{width, words}
use Rattle.store.specs.Head.{zeros, head_of, node_words, page_words, size, node_start, page_start}
use Rattle.store.specs.Head.{node_at, page_at, lawful_sizes, lawful_counts, released_of, named, lawful_released, head_rule}
use Rattle.store.specs.Released.{released_node, released_page}
use Rattle.node.specs.Node.{run_rule, good_runs, link_rule, pointer_low, pointer_high, node_rule, entry_number}
use Rattle.page.specs.Page.{item_at, item_words, flat, lawful_item, ordered, page_rule, agrees, above, first_from, first_above}
use Rattle.search.specs.Descent.{no_steps, entry_visit, step_of, step_taken, descend, descent}
use Rattle.search.specs.Find.{sound_page, in_page, find_of}
use Rattle.represent.specs.Image.{page_image}
use Rattle.represent.specs.Example.{stored}
use Rattle.split.specs.Frame.{put_node, put_page, put_head}
use Rattle.split.specs.Block.{kept, block, over_run, linked}
use Rattle.insert.specs.Enter.{items_in, own_items}
use Rattle.fuse.specs.Join.{shrunk, cover, both_halves, joined}
use Rattle.release.specs.Release.{release_node, release_page}
use Rattle.remove.specs.Remove.{on_left, sibling_key, once, seek, both_pages, page_joins, emptied, beside_ok}
use Rattle.remove.specs.Remove.{links_ok, both_nodes, sibling_ok, node_joins, levels_from, kept_over, first_used, first_spot, plan_over, plan_of}
use Rattle.remove.specs.Remove.{put_own, back_linked, relinked, written_by, carried_out, found_of, remove_of}
use Rattle.remove.specs.Checks.{one_way, other_level, twice, DamageRefused}
use Rattle.remove.specs.Example.{handed_back, ExampleRemoved}

computed : DamageRefused × ExampleRemoved
unfolding bit part tab every greatest is_word lawful_day lawful_term lawful log_below level_bound width words zeros head_of node_words page_words size
    node_start page_start node_at page_at lawful_sizes lawful_counts released_of named lawful_released head_rule run_rule good_runs link_rule
    pointer_low pointer_high node_rule entry_number item_at lawful_item ordered page_rule agrees above first_from first_above no_steps entry_visit
    step_of step_taken descend descent sound_page in_page find_of block over_run items_in own_items shrunk cover on_left sibling_key once seek
    both_pages page_joins emptied beside_ok links_ok sibling_ok node_joins levels_from plan_over plan_of carried_out found_of remove_of one_way
    other_level twice handed_back
    both_halves joined both_nodes kept_over first_spot first_used replaced page_image stored released_node released_page item_words flat release_node release_page
    put_own relinked written_by back_linked put_node put_page put_head linked kept
computed = ((refl, refl, refl), refl)

pub damage_refused : DamageRefused
damage_refused = computed.0

pub example_removed : ExampleRemoved
example_removed = computed.1
