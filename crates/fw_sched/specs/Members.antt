-- The members of a document: which names there are, and what has to stand at each.
use Rattle.std.specs.Prelude.{ℕ, pos, Bool, false, nat_le, List, [], ◌∷◌, length, Option, None, Some, codes, is_some, option_map, if◌then◌else◌}
use Rattle.std.specs.List.{list_any}
use Rattle.std.specs.Option.{option_and_then}
use Rattle.std.specs.Ordering.{nat_cmp, is_lt}
use Rattle.std.specs.Cmp.Lexicographic.{slice_cmp}
use Rattle.std.specs.Result.{result_ok}
use Rattle.std.specs.Str.{bytes_eq}
use Rattle.toml.specs.Data.{Data, integer, Items, no_items, item, Members, no_members, member, get_member, as_str, as_array}
use Rattle.hex.specs.Hex.{decode_sized}
use Rattle.fw_list.specs.Numbers.{within}
use Rattle.fw_base.specs.declared.limits.TheConstants.{MOST_FAULTS, MOST_NUMBERS, MOST_VIEWS, MOST_CLIENTS, MOST_STAMPS}
use Rattle.fw_record.specs.declared.limits.TheConstants.{MOST_RECORDS}
use Rattle.fw_sched.specs.declared.limits.TheConstants.{MOST_STEPS}

-- ---- what stands at a name

-- the whole number from 0 on
abbrev pub whole_of : Data → Option ℕ
whole_of (integer (pos n)) = Some n
whole_of _ = None

abbrev pub number_at : Members → List ℕ → Option ℕ
number_at members name = option_and_then whole_of (get_member name members)

-- the 32 bytes of 64 hexadecimal digits, of either case
abbrev pub seed_at : Members → Option (List ℕ)
seed_at members = option_and_then (λ text. result_ok (decode_sized text 32)) (option_and_then as_str (get_member (codes "seed") members))

-- the texts of an array, where each item is one
abbrev pub texts_of : Items → Option (List (List ℕ))
texts_of no_items = Some []
texts_of (item d ds) = option_and_then (λ text. option_map (λ texts. text ∷ texts) (texts_of ds)) (as_str d)

abbrev pub texts_at : Members → List ℕ → Option (List (List ℕ))
texts_at members name = option_and_then texts_of (option_and_then as_array (get_member name members))

-- ---- the fields, in order, and whether each is there, of its kind and within its limit

-- there is one, and it passes the test
abbrev pub has : {A : Type 0} → (A → Bool) → Option A → Bool
has test None = false
has test (Some x) = test x

abbrev pub number_within : Members → List ℕ → ℕ → ℕ → Bool
number_within members name least most = has (λ n. within least n most) (number_at members name)

-- at most as many as there are numbers
abbrev pub pipe_fits : Members → Bool
pipe_fits members = has (λ numbers. number_within members (codes "pipe") 1 numbers) (number_at members (codes "numbers"))

abbrev pub few_texts : Members → List ℕ → ℕ → Bool
few_texts members name most = has (λ texts. nat_le (length texts) most) (texts_at members name)

abbrev pub fields : Members → List (List ℕ × Bool)
fields members =
    (codes "version", number_within members (codes "version") 1 1)
    ∷ (codes "f", number_within members (codes "f") 0 MOST_FAULTS)
    ∷ (codes "g", number_within members (codes "g") 0 MOST_FAULTS)
    ∷ (codes "h", number_within members (codes "h") 0 MOST_FAULTS)
    ∷ (codes "numbers", number_within members (codes "numbers") 1 MOST_NUMBERS)
    ∷ (codes "views", number_within members (codes "views") 1 MOST_VIEWS)
    ∷ (codes "clients", number_within members (codes "clients") 1 MOST_CLIENTS)
    ∷ (codes "stamps", number_within members (codes "stamps") 1 MOST_STAMPS)
    ∷ (codes "pipe", pipe_fits members)
    ∷ (codes "seed", is_some (seed_at members))
    ∷ (codes "faulty", is_some (texts_at members (codes "faulty")))
    ∷ (codes "records", few_texts members (codes "records") MOST_RECORDS)
    ∷ (codes "steps", few_texts members (codes "steps") MOST_STEPS)
    ∷ []

-- the first name whose field isn't as it has to be
abbrev pub first_wrong : List (List ℕ × Bool) → Option (List ℕ)
first_wrong [] = None
first_wrong (f ∷ fs) = if f.1 then first_wrong fs else Some f.0

-- ---- other names

abbrev pub is_known : List ℕ → Bool
is_known name = list_any (bytes_eq name) known
  where
    known : List (List ℕ)
    known =
        codes "version" ∷ codes "f" ∷ codes "g" ∷ codes "h" ∷ codes "numbers" ∷ codes "views" ∷ codes "clients" ∷ codes "stamps"
        ∷ codes "pipe" ∷ codes "seed" ∷ codes "faulty" ∷ codes "records" ∷ codes "steps" ∷ []

-- the lesser of two names by their bytes, where the second may be missing
abbrev pub lesser : List ℕ → Option (List ℕ) → List ℕ
lesser name None = name
lesser name (Some other) = if is_lt (slice_cmp nat_cmp name other) then name else other

-- the least of the names that a document doesn't have
abbrev pub least_other : Members → Option (List ℕ)
least_other no_members = None
least_other (member name value members) = if is_known name then least_other members else Some (lesser name (least_other members))
