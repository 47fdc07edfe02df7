-- The words behind `state` are judged by the own key, if one is known.
use Rattle.std.proofs.Common.{◌≡◌, ℕ, List, Option, Some, None, ap}
use Rattle.hss.specs.Keys.{TwoLevelKey}
use Rattle.lms_tree.specs.declared.key.PublicKey.{PublicKey}
use Rattle.records.specs.declared.keys.Key.{Key}
use Rattle.records.specs.declared.keys.Key.TheVariants as keys
use Rattle.line_text.specs.Frame.{fields_line, whole_line}
use Rattle.schedule_texts.specs.HeadRows.{state_fault_in, state_fields, state_in}

pub of_none : (own : Option Key) (args : List (List ℕ)) → own ≡ None → whole_line (state_fields own args) (state_fault_in own) (state_in own) args ≡ fields_line (state_fields None args) (state_in None) args
of_none own args is = ap (λ (o : Option Key). whole_line (state_fields o args) (state_fault_in o) (state_in o) args) is

pub of_one_level : (own : Option Key) (key : PublicKey) (args : List (List ℕ)) → own ≡ Some (keys.Lms key) → whole_line (state_fields own args) (state_fault_in own) (state_in own) args ≡ fields_line (state_fields None args) (state_in None) args
of_one_level own key args is = ap (λ (o : Option Key). whole_line (state_fields o args) (state_fault_in o) (state_in o) args) is

pub of_two_levels : (own : Option Key) (key : TwoLevelKey) (args : List (List ℕ)) → own ≡ Some (keys.Hss key)
    → whole_line (state_fields own args) (state_fault_in own) (state_in own) args ≡ whole_line (state_fields (Some (keys.Hss key)) args) (state_fault_in (Some (keys.Hss key))) (state_in (Some (keys.Hss key))) args
of_two_levels own key args is = ap (λ (o : Option Key). whole_line (state_fields o args) (state_fault_in o) (state_in o) args) is
