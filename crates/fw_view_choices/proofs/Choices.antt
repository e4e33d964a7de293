-- Whole runs in which a new view chooses between proofs of one number from two views: of each number it takes the proof of the greatest view.
use Rattle.std.specs.Prelude.{[], refl}
use Rattle.fw_list.specs.Numbers.{u32}
use Rattle.fw_text.specs.Texts.{text_bytes}
use Rattle.fw_store.specs.Store.{name_cmp}
use Rattle.fw_frame.specs.View.{null_body}
use Rattle.fw_rules.specs.Toy.{toy_means}
use Rattle.fw_view_runs.specs.Whole.{EndsIn}
use Rattle.fw_view_choices.specs.Schedules.{three_views, two_views, older_first, older_last, two_views_row, older_row}
use Rattle.fw_view_choices.proofs.Ends.{ends}

-- proofs of one number in two views, in both orders: the one of the greatest view is chosen, at 1 and at 3
pub best_of_two_views : EndsIn (toy_means (three_views 4 2)) [] [] two_views 2 two_views_row
unfolding u32 text_bytes name_cmp null_body
best_of_two_views = ends (toy_means (three_views 4 2)) [] [] two_views 2 two_views_row refl

-- a number that was committed in view 1 keeps its entry in view 2, where an older proof of another stands first
pub committed_before_an_older_proof : EndsIn (toy_means (three_views 2 4)) [] [] older_first 2 (older_row 212 192)
unfolding u32 text_bytes name_cmp null_body
committed_before_an_older_proof = ends (toy_means (three_views 2 4)) [] [] older_first 2 (older_row 212 192) refl

-- the same where it stands last
pub committed_behind_an_older_proof : EndsIn (toy_means (three_views 2 4)) [] [] older_last 2 (older_row 215 195)
unfolding u32 text_bytes name_cmp null_body
committed_behind_an_older_proof = ends (toy_means (three_views 2 4)) [] [] older_last 2 (older_row 215 195) refl
