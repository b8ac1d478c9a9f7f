-- The sample holds: antt computes it.
use mathlib.Core.Path.{refl}
use Rattle.lists.specs.Bits.{bit}
use Rattle.lists.specs.Lists.{replaced, part, tab, every, greatest}
use Rattle.lists.specs.Keyed.{contains, insert}
use Rattle.plot.specs.Plot.{is_word, lawful_day, lawful_term, lawful}
use Rattle.plot.specs.Money.{days_left, amount, balance_reply}
use Rattle.tree.specs.Book.{log_below, level_bound}
use Rattle.tree.specs.Build.{rounds, pages_at}
use Rattle.tree.specs.Carry.{bump, bump_cost}
use Rattle.store.specs.Format.{width, words}
use Rattle.store.specs.Head.{zeros, head_of, node_words, page_words, size, node_start, page_start, page_at, lawful_sizes, lawful_counts, head_rule}
use Rattle.store.specs.Head.{released_of, named, lawful_released}
use Rattle.store.specs.Released.{released_node, released_page, node_form, page_form, chain_of, after_all, passed, member, link_ok, chain_ok, nodes_ok, pages_ok, released_nodes, released_pages, up_from, nodes_to_come, pages_to_come, next_node, node_taken, next_page, page_taken}
use Rattle.store.specs.SetUp.{set_up_words, set_up}
use Rattle.store.specs.Tests.{failing}
use Rattle.store.specs.Head.{node_at}
use Rattle.node.specs.Node.{run_rule, good_runs, link_rule, pointer_low, pointer_high, node_rule, entry_number}
use Rattle.page.specs.Page.{item_at, item_words, flat, lawful_item, in_turn, ordered, page_rule, agrees, above, first_from}
use Rattle.page.specs.Page.{first_above}
use Rattle.page.specs.Schema.{unlawful}
use Rattle.totals.specs.Totals.{no_totals, worth, ahead, earlier, updated_of}
use Rattle.search.specs.Descent.{no_steps, damaged_node, entry_visit, step_of, lost, step_taken, descend, descent}
use Rattle.search.specs.Find.{sound_page, in_page, find_of, checked, find_reply}
use Rattle.search.specs.Next.{first_pointer, run_after, visit_after, linked, onward, hop, reach, visited, behind, after_own}
use Rattle.search.specs.Next.{from_descent, next_of}
use Rattle.scan.specs.Summary.{damage, sum_from, summed, summary_of}
use Rattle.split.specs.Block.{kept, block, over_run, halves, halve_run, double, grow, half, lower, upper, aim, top}
use Rattle.split.specs.Block as blocks
use Rattle.split.specs.Frame.{put_node, put_page, put_head}
use Rattle.split.specs.Round.{put_both, grown, split_node, relink, split_first, new_root, climb, round, aim_at}
use Rattle.represent.specs.Image.{page_image, node_image}
use Rattle.insert.specs.Enter.{items_in, own_items, own_passes, neighbour_ok, path_in, parted, round_of, placed, rounds_for, plan_of, way_of}
use Rattle.insert.specs.Enter.{undamaged, entered_words, done, enter_of}
use Rattle.lines.specs.Columns.{digit, skipped, plain, value, number_of, is_number, byte_at, column}
use Rattle.lines.specs.Request.{kind_numbered, request_line, field_of, unused, request_of, well_formed, parsed}
use Rattle.lines.specs.Reply.{four_fields, summary_fields, reply_line}
use Rattle.lines.specs.Checks.{bytes}
use Rattle.desk.specs.Replies.{told, set_up_told, enter_told, found_told, summary_told}
use Rattle.desk.specs.Transcript.{answered, outcome_bytes, ending, served, transcript}
use Rattle.desk.specs.Sample.{request, response, Sampled}

pub sampled : Sampled
unfolding bytes request response transcript served bit replaced part tab every greatest contains insert is_word lawful_day lawful_term
    lawful days_left amount balance_reply log_below level_bound rounds pages_at bump bump_cost width words zeros head_of node_words page_words size
    node_start page_start page_at lawful_sizes lawful_counts head_rule set_up_words set_up failing run_rule good_runs link_rule pointer_low
    pointer_high node_rule entry_number item_at item_words flat lawful_item in_turn ordered page_rule agrees above first_from
    first_above unlawful no_totals worth ahead earlier updated_of no_steps damaged_node entry_visit step_of lost step_taken descend descent sound_page
    in_page find_of checked find_reply first_pointer run_after visit_after linked onward hop reach visited behind after_own from_descent next_of damage
    sum_from summed summary_of kept block over_run halves halve_run double grow half lower upper aim top blocks.linked put_node put_page put_head
    released_of named lawful_released released_node released_page node_form page_form chain_of after_all passed member link_ok chain_ok nodes_ok pages_ok released_nodes released_pages up_from nodes_to_come pages_to_come next_node node_taken next_page page_taken
    put_both grown split_node relink split_first new_root climb round aim_at page_image node_image node_at items_in own_items own_passes
    neighbour_ok path_in parted round_of placed rounds_for plan_of way_of undamaged entered_words done enter_of digit skipped plain value number_of
    is_number byte_at column request_line kind_numbered field_of unused request_of well_formed parsed four_fields summary_fields reply_line told set_up_told
    enter_told found_told summary_told answered outcome_bytes ending
sampled = refl
