-- W-204's and W-205's places are those that the rules compute.
use mathlib.Core.Path.{refl}
use Rattle.lists.specs.Below.{all_below, any_below, sum_below, greatest_below, join_below}
use Rattle.lists.specs.Splice.{splice}
use Rattle.format.specs.Limits.{format_rule, tasks_rule, power_of_two, blocksize_rule, maxchunks_rule, is_new, rank_rule}
use Rattle.format.specs.Layout.{meta1_end, round_up, data_start, extended, capacity, extended_before, globalskip, meta2_start, meta2_length, meta2_end}
use Rattle.format.specs.Refusals.{first_failing, first_fault}
use Rattle.format.specs.Meta2.{value_rule, least_count}
use Rattle.format.specs.Record.{holds, meta2_at, end_at}
use Rattle.format.specs.Judge.{magic_in, big_in, ordered_in, tasks_in, maxchunks_in, head_in, rank_in, size_in, meta2_in, start_tests, field_tests, fixed_tests, rank_tests, requested_tests, last_tests, rest_tests, meta1_tests, count_in, count_tests, greatest_test, value_test, value_tests, counts_tests, meta2_tests}
use Rattle.format.specs.Load.{meta2_bytes, load_tests, load_refusal}
use Rattle.format.specs.Numbers.{Agrees}
use Rattle.pairs.specs.Mapping.{mapping_length, entry_tests, mapping_tests}
use Rattle.pairs.specs.Load.{mapping_in, pair_load_tests, pair_load_refusal, broken_file, pair_fault, pair_checked, pair_loaded, pair_load_tables}
use Rattle.pairs.specs.Places.{mapping_table, both_table}

-- the mapping
pub mapping_table_holds : Agrees mapping_table
unfolding join_below splice first_failing first_fault mapping_length entry_tests mapping_tests mapping_table
mapping_table_holds = (refl, (refl, (refl, (refl, (refl, (refl, (refl, (refl, (refl, (refl, (refl, (refl, (refl, (refl, (refl, (refl, (refl, (refl, (refl, tt)))))))))))))))))))

-- both files
pub both_table_holds : Agrees both_table
unfolding all_below any_below sum_below greatest_below join_below splice format_rule tasks_rule power_of_two blocksize_rule maxchunks_rule is_new rank_rule
    meta1_end round_up data_start extended capacity extended_before globalskip meta2_start meta2_length meta2_end first_failing first_fault value_rule
    least_count holds meta2_at end_at magic_in big_in ordered_in tasks_in maxchunks_in head_in rank_in size_in meta2_in start_tests field_tests fixed_tests rank_tests
    requested_tests last_tests rest_tests meta1_tests count_in count_tests greatest_test value_test value_tests counts_tests meta2_tests meta2_bytes load_tests
    load_refusal mapping_length entry_tests mapping_tests mapping_in pair_load_tests pair_load_refusal broken_file pair_fault pair_checked pair_loaded
    pair_load_tables both_table
both_table_holds = (refl, (refl, (refl, (refl, (refl, (refl, (refl, (refl, (refl, (refl, (refl, (refl, (refl, (refl, (refl, (refl, (refl, (refl, tt))))))))))))))))))
