-- What a reader of a script keeps, line after line.
use Rattle.std.proofs.Common.{◌≡◌, ℕ, zero, suc, ◌+◌, ◌-◌, ◌<◌, ◌≤◌, List, [], ◌∷◌, ◌++◌, map, take, set, get_or, length, length-append, Bool, true, false, if◌then◌else◌, Option, Some, None, refl, sym, ap, subst, ◌∙◌, append-nil, arith}
use Rattle.std.specs.Prelude.{◌&&◌, slice_get, bytes_eq, nat_eq, option_map, option_and_then, is_some, not, IfSome, Result, Ok, Err}
use Rattle.std.specs.List.{list_any}
use Rattle.std.specs.Option.{option_map_or}
use Rattle.std.proofs.lemmas.Bool.{eqb-true}
use Rattle.std.proofs.lemmas.Cmp.{nat_list_eq_equiv}
use Rattle.std.proofs.lemmas.List.{map-append, map-set, get_or-map, length-map, length-take, take_more, take_all}
use Rattle.std.proofs.lemmas.List.Folds.{list_any-append}
use Rattle.std.proofs.lemmas.Map.Keys.{any_passes_from_place}
use Rattle.std.proofs.lemmas.Option.{same_Some, slice_get_within, slice_get-map, get_or_from_slice_get}
use Rattle.std.proofs.lemmas.Slice.Eq.{bytes_eq-Decides}
use Rattle.tx_steps.specs.declared.program.Program.TheVariants.{Run}
use Rattle.tx_steps.specs.declared.step.Step.{Step}
use Rattle.tx_steps.specs.Steps.{Text}
use Rattle.tx_workload.specs.ScriptLines.{KeepsText, is_named, is_seed, lines_of_session, name_in, seeds_of, session_names, session_of, sessions_of, step_for, step_of, with_name}
use Rattle.tx_text.specs.Lines.{lines_of}
use Rattle.tx_transfer.specs.Sources.{HasLine}
use Rattle.tx_types.specs.declared.key.Key.{Key}
use Rattle.serde_json.specs.Data.{Data}
use Rattle.tx_types.specs.declared.fault.Cause.{Cause}
use Rattle.tx_steps.specs.Lines.{data_said, step_in, bounds_in}
use Rattle.tx_evidence.specs.Lines.{bounds_by, bounds_at, bounds_of}
use Rattle.tx_workload.specs.Faults.{opens}
use Rattle.tx_workload.specs.Readers.{HasSession, Sorts, SortsBefore}
use Rattle.tx_workload.proofs.SessionNames.{session_names-more, lines_more, seeds_more, session_names-distinct, no_lines, map_same, joined, begun, more_number, with_number}
use Rattle.tx_workload.proofs.Sources.{Stands}

-- ---- what a reader keeps

seam_of : (names : List Text) (name : Text) → slice_get (names ++ name ∷ []) (length names) ≡ Some name
seam_of [] name = refl
seam_of (n ∷ names) name = seam_of names name

kept_of : (names : List Text) (name : Text) (k : ℕ) (q : Text) → slice_get names k ≡ Some q
    → slice_get (names ++ name ∷ []) k ≡ Some q
kept_of [] name k q e = absurd (cc (e))
kept_of (n ∷ names) name zero q e = e
kept_of (n ∷ names) name (suc k) q e = kept_of names name k q e

pub sorts_first : (index : Text → Option ℕ) → ((name : Text) → index name ≡ None) → Sorts [] index [] [] []
sorts_first index none = record {
  found = λ name i is. absurd (cc (none name, is));
  missed = λ name is. refl;
  sessions = refl;
  seeds = refl;
  bounds = refl;
}

-- a line that says a step says no keys between the regions
no_bounds : (said : Result Data Cause) (step : Step Text) → step_for 1 said ≡ Some step → bounds_at said ≡ []
no_bounds (Err cause) step is = absurd (cc (is))
no_bounds (Ok d) step is = by (bounds_in d) refl
  where
    opened : (b : Bool) → b ≡ true → (if b then None else step_in Run d) ≡ Some step → ⊥
    opened true e said = cc (said)
    opened false e said = cc (e)

    by : (o : Option (List Key)) → bounds_in d ≡ o → bounds_by o ≡ []
    by None e = refl
    by (Some keys) e = absurd (opened (opens 1 d) (ap is_some e) is)

-- what the first line says of the regions, as the text has one more line
pub bounds_step : (lines : List (List ℕ)) (line : List ℕ) (number : ℕ) (step : Step Text) → number ≡ length lines + 1
    → step_of number line ≡ Some step → bounds_of (lines ++ line ∷ []) ≡ bounds_of lines
bounds_step [] line number step at said =
    no_bounds (data_said 1 line) step (subst (λ (n : ℕ). step_of n line ≡ Some step) at said)
bounds_step (first ∷ lines) line number step at said = refl

pub bounds_open : (lines : List (List ℕ)) (line : List ℕ) (number : ℕ) (d : Data) → number ≡ length lines + 1
    → data_said number line ≡ Ok d → opens number d ≡ true → bounds_by (bounds_in d) ≡ bounds_of (lines ++ line ∷ [])
bounds_open [] line number d at said opened =
    ap bounds_at (sym (subst (λ (n : ℕ). data_said n line ≡ Ok d) at said))
bounds_open (first ∷ lines) line number d at said opened = absurd (late (nat_eq number 1) refl opened)
  where
    late : (b : Bool) → nat_eq number 1 ≡ b → (b && is_some (bounds_in d)) ≡ true → ⊥
    late true e is = let same : number ≡ 1 = eqb-true number 1 e in omega (arith, at, same)
    late false e is = cc (is)

step_named : (number : ℕ) (line : List ℕ) (name : Text) → session_of number line ≡ Some name
    → (step : Step Text) × (step_of number line ≡ Some step)
step_named number line name is = by (step_of number line) refl is
  where
    by : (o : Option (Step Text)) → step_of number line ≡ o → option_and_then name_in o ≡ Some name
        → (step : Step Text) × (step_of number line ≡ Some step)
    by None e said = absurd (cc (said))
    by (Some step) e said = (step, e)

module _ (lines : List (List ℕ)) (line : List ℕ) (number : ℕ) (at : number ≡ length lines + 1)
    (index : Text → Option ℕ) (kept : List (List ℕ)) (others : List ℕ) (between : List Key)
    (sorts : Sorts lines index kept others between) where
  -- the regions stay, where the line says a step
  bounds_named : (name : Text) → session_of number line ≡ Some name → between ≡ bounds_of (lines ++ line ∷ [])
  bounds_named name is =
      let said = step_named number line name is in
      sorts.bounds ∙ sym (bounds_step lines line number said.0 at said.1)

  -- the lines of all names, where the new line is of this session, or of none
  all_lines : (names : List Text) (s : Option Text) → session_of number line ≡ s
      → map (λ name. lines_of_session name (lines ++ line ∷ [])) names
      ≡ map (λ name. lines_of_session name lines ++ (if is_named name s then number ∷ [] else [])) names
  all_lines names s is = map_same _ _
      (λ name. lines_more lines line number at name ∙ ap (λ (o : Option Text). lines_of_session name lines
      ++ (if is_named name o then number ∷ [] else [])) is) names

  names_then : (s : Option Text) → session_of number line ≡ s
      → session_names (lines ++ line ∷ []) ≡ with_name (session_names lines) s
  names_then s is = session_names-more lines line number at ∙ ap (with_name (session_names lines)) is

  seeds_then : (b : Bool) → is_seed number line ≡ b
      → others ++ (if b then number ∷ [] else []) ≡ seeds_of (lines ++ line ∷ [])
  seeds_then b is =
      ap (λ (l : List ℕ). l ++ (if b then number ∷ [] else [])) sorts.seeds
      ∙ ap (λ (c : Bool). seeds_of lines ++ (if c then number ∷ [] else [])) (sym is)
      ∙ sym (seeds_more lines line number at)

  -- a line that is no session's
  pub sorts_none : (more : List ℕ) (later : List Key) → session_of number line ≡ None
      → more ≡ others ++ (if is_seed number line then number ∷ [] else []) → later ≡ bounds_of (lines ++ line ∷ [])
      → Sorts (lines ++ line ∷ []) index kept more later
  sorts_none more later none is said =
      let names : session_names lines ≡ session_names (lines ++ line ∷ []) = sym (names_then None none) in
      record {
        found = λ name i here. subst (λ (ns : List Text). slice_get ns i ≡ Some name) names (sorts.found name i here);
        missed = λ q here. subst (λ (ns : List Text). list_any (bytes_eq q) ns ≡ false) names (sorts.missed q here);
        sessions = sorts.sessions
            ∙ sym (map_same (λ name. lines_of_session name lines ++ []) (λ name. lines_of_session name lines)
            (λ name. append-nil (lines_of_session name lines)) (session_names lines))
            ∙ sym (all_lines (session_names lines) None none)
            ∙ ap (map (λ name. lines_of_session name (lines ++ line ∷ []))) names;
        seeds = is ∙ seeds_then (is_seed number line) refl;
        bounds = said;
      }

  no_seed : (name : Text) → session_of number line ≡ Some name → is_seed number line ≡ false
  no_seed name is = by (step_of number line) is
    where
      named : (o : Option Text) → o ≡ Some name → not (is_some o) ≡ false
      named None e = absurd (cc (e))
      named (Some other) e = refl

      by : (s : Option (Step Text)) → option_and_then name_in s ≡ Some name
          → option_map_or (λ step. not (is_some (name_in step))) s false ≡ false
      by None e = refl
      by (Some step) e = named (name_in step) e

  session_seeds : (name : Text) → session_of number line ≡ Some name → others ≡ seeds_of (lines ++ line ∷ [])
  session_seeds name is = sym (append-nil others) ∙ seeds_then false (no_seed name is)

  -- a line of a session that has some
  pub sorts_known : (name : Text) (i : ℕ) → session_of number line ≡ Some name → index name ≡ Some i
      → Sorts (lines ++ line ∷ []) index (set kept i (get_or kept i [] ++ number ∷ [])) others between
  sorts_known name i is here =
      let there : slice_get (session_names lines) i ≡ Some name = sorts.found name i here in
      let among : list_any (bytes_eq name) (session_names lines) ≡ true =
      any_passes_from_place (bytes_eq name) (session_names lines) i name there (nat_list_eq_equiv.refl name) in
      let same : with_name (session_names lines) (Some name) ≡ session_names lines =
      ap (λ (b : Bool). if b then session_names lines else session_names lines ++ name ∷ []) among in
      let names : session_names lines ≡ session_names (lines ++ line ∷ []) = sym (names_then (Some name) is ∙ same) in
      let was : get_or (sessions_of lines) i [] ≡ lines_of_session name lines =
      get_or_from_slice_get (sessions_of lines) i (lines_of_session name lines) []
      (slice_get-map (λ n. lines_of_session n lines) (session_names lines) i
      ∙ ap (option_map (λ n. lines_of_session n lines)) there) in
      record {
        found = λ other k e. subst (λ (ns : List Text). slice_get ns k ≡ Some other) names (sorts.found other k e);
        missed = λ q e. subst (λ (ns : List Text). list_any (bytes_eq q) ns ≡ false) names (sorts.missed q e);
        sessions = ap (λ (l : List (List ℕ)). set l i (get_or l i [] ++ number ∷ [])) sorts.sessions
            ∙ ap (λ (l : List ℕ). set (sessions_of lines) i (l ++ number ∷ [])) was
            ∙ sym (joined (λ n. lines_of_session n lines) number name (session_names lines) i
            (session_names-distinct lines) there)
            ∙ sym (all_lines (session_names lines) (Some name) is)
            ∙ ap (map (λ n. lines_of_session n (lines ++ line ∷ []))) names;
        seeds = session_seeds name is;
        bounds = bounds_named name is;
      }

  pub known_within : (name : Text) (i : ℕ) → index name ≡ Some i → i < length kept
  known_within name i here =
      omega (
        arith,
        slice_get_within (session_names lines) i name (sorts.found name i here),
        ap length sorts.sessions,
        length-map (session_names lines) (λ n. lines_of_session n lines),
      )

  -- the first line of a session
  pub sorts_new : (name : Text) (next : Text → Option ℕ) → session_of number line ≡ Some name → index name ≡ None
      → ((q : Text) → next q ≡ (if bytes_eq name q then Some (length kept) else index q))
      → Sorts (lines ++ line ∷ []) next (kept ++ (number ∷ []) ∷ []) others between
  sorts_new name next is here updates =
      let none : list_any (bytes_eq name) (session_names lines) ≡ false = sorts.missed name here in
      let same : with_name (session_names lines) (Some name) ≡ session_names lines ++ name ∷ [] =
      ap (λ (b : Bool). if b then session_names lines else session_names lines ++ name ∷ []) none in
      let names : session_names lines ++ name ∷ [] ≡ session_names (lines ++ line ∷ []) =
      sym (names_then (Some name) is ∙ same) in
      let count : length kept ≡ length (session_names lines) =
      ap length sorts.sessions ∙ length-map (session_names lines) (λ n. lines_of_session n lines) in
      record {
        found = λ q k e. subst (λ (ns : List Text). slice_get ns k ≡ Some q) names
            (found_next q k (bytes_eq name q) refl (sym (updates q) ∙ e) count);
        missed = λ q e. subst (λ (ns : List Text). list_any (bytes_eq q) ns ≡ false) names
            (missed_next q (bytes_eq name q) refl (sym (updates q) ∙ e));
        sessions = ap (λ (l : List (List ℕ)). l ++ (number ∷ []) ∷ []) sorts.sessions
            ∙ ap (λ (l : List (List ℕ)). l ++ (number ∷ []) ∷ [])
            (sym (begun (λ n. lines_of_session n lines) number name (session_names lines) none))
            ∙ ap (λ (l : List ℕ). map (with_number (λ n. lines_of_session n lines) number name) (session_names lines)
            ++ l ∷ []) (first none)
            ∙ sym (map-append (with_number (λ n. lines_of_session n lines) number name) (session_names lines)
            (name ∷ []))
            ∙ sym (all_lines (session_names lines ++ name ∷ []) (Some name) is)
            ∙ ap (map (λ n. lines_of_session n (lines ++ line ∷ []))) names;
        seeds = session_seeds name is;
        bounds = bounds_named name is;
      }
    where
      first : list_any (bytes_eq name) (session_names lines) ≡ false
          → number ∷ [] ≡ with_number (λ n. lines_of_session n lines) number name name
      first none =
          sym (more_number (λ n. lines_of_session n lines) number name name refl
          ∙ ap (λ (l : List ℕ). l ++ number ∷ []) (no_lines lines name none))

      found_next : (q : Text) (k : ℕ) (b : Bool) → bytes_eq name q ≡ b
          → (if b then Some (length kept) else index q) ≡ Some k → length kept ≡ length (session_names lines)
          → slice_get (session_names lines ++ name ∷ []) k ≡ Some q
      found_next q k true equal e count =
          let same : name ≡ q = (bytes_eq-Decides name q).0 equal in
          let last : length (session_names lines) ≡ k = sym count ∙ same_Some (length kept) k e in
          subst (λ (n : ℕ). slice_get (session_names lines ++ name ∷ []) n ≡ Some q) last
          (seam_of (session_names lines) name ∙ ap Some same)
      found_next q k false apart e count = kept_of (session_names lines) name k q (sorts.found q k e)

      missed_next : (q : Text) (b : Bool) → bytes_eq name q ≡ b
          → (if b then Some (length kept) else index q) ≡ None
          → list_any (bytes_eq q) (session_names lines ++ name ∷ []) ≡ false
      missed_next q true equal e = absurd (cc (e))
      missed_next q false apart e =
          list_any-append (bytes_eq q) (session_names lines) (name ∷ [])
          ∙ rw (sorts.missed q e, nat_list_eq_equiv.symm q name, apart) refl

-- ---- as the text is read

found_line : (number : ℕ) (o : Option (List ℕ)) (name : Text) → option_and_then (session_of number) o ≡ Some name
    → (line : List ℕ) × (o ≡ Some line) × (session_of number line ≡ Some name)
found_line number None name e = absurd (cc (e))
found_line number (Some line) name e = (line, refl, e)

module _ (text : List ℕ) (number : ℕ) (line : List ℕ) (some : 0 < number)
    (there : slice_get (lines_of text) (number - 1) ≡ Some line) where
  next_lines : take (number - 1) (lines_of text) ++ line ∷ [] ≡ take (number + 1 - 1) (lines_of text)
  next_lines =
      let within : number - 1 < length (lines_of text) = slice_get_within (lines_of text) (number - 1) line there in
      let same : get_or (lines_of text) (number - 1) line ≡ line =
      get_or_from_slice_get (lines_of text) (number - 1) line line there in
      let next : number - 1 + 1 ≡ number + 1 - 1 = omega (arith, some) in
      sym (take_more (lines_of text) (number - 1) line within
      ∙ ap (λ (l : List ℕ). take (number - 1) (lines_of text) ++ l ∷ []) same)
      ∙ ap (λ (n : ℕ). take n (lines_of text)) next

  place : number ≡ length (take (number - 1) (lines_of text)) + 1
  place =
      let within : number - 1 < length (lines_of text) = slice_get_within (lines_of text) (number - 1) line there in
      omega (arith, some, within, length-take (number - 1) (lines_of text))

pub before_first : (source : Option (List ℕ)) (index : Text → Option ℕ) → ((name : Text) → index name ≡ None)
    → SortsBefore source 1 index [] [] []
before_first None index none = tt
before_first (Some text) index none = sorts_first index none

module _ (source : Option (List ℕ)) (number : ℕ) (some : 0 < number) (index : Text → Option ℕ)
    (kept : List (List ℕ)) (others : List ℕ) (between : List Key) where
  -- a line of no session
  pub before_none : (line : List ℕ) (more : List ℕ) (later : List Key) → HasLine source number line
      → session_of number line ≡ None → more ≡ others ++ (if is_seed number line then number ∷ [] else [])
      → ((lines : List (List ℕ)) → number ≡ length lines + 1 → between ≡ bounds_of lines
      → later ≡ bounds_of (lines ++ line ∷ []))
      → SortsBefore source number index kept others between → SortsBefore source (number + 1) index kept more later
  before_none line more later has none is said sorts = by source has sorts
    where
      by : (o : Option (List ℕ)) → HasLine o number line → SortsBefore o number index kept others between
          → SortsBefore o (number + 1) index kept more later
      by None has sorts = tt
      by (Some text) has sorts =
          let at = place text number line some has in
          subst (λ (ls : List (List ℕ)). Sorts ls index kept more later) (next_lines text number line some has)
          (sorts_none (take (number - 1) (lines_of text)) line number at index kept others between sorts more later none
          is (said (take (number - 1) (lines_of text)) at sorts.bounds))

  -- a line of a session that has some
  pub before_known : (name : Text) (i : ℕ) (new : List (List ℕ)) → HasSession source number name
      → index name ≡ Some i → (i < length kept → new ≡ set kept i (get_or kept i [] ++ number ∷ []))
      → SortsBefore source number index kept others between
      → SortsBefore source (number + 1) index new others between
  before_known name i new named here set_is sorts = by source named sorts
    where
      by : (o : Option (List ℕ)) → HasSession o number name → SortsBefore o number index kept others between
          → SortsBefore o (number + 1) index new others between
      by None named sorts = tt
      by (Some text) named sorts =
          let l = found_line number (slice_get (lines_of text) (number - 1)) name named in
          let lines = take (number - 1) (lines_of text) in
          let at = place text number l.0 some l.1 in
          let within = known_within lines l.0 number at index kept others between sorts name i here in
          subst (λ (k : List (List ℕ)). Sorts (take (number + 1 - 1) (lines_of text)) index k others between)
          (sym (set_is within))
          (subst (λ (ls : List (List ℕ)). Sorts ls index (set kept i (get_or kept i [] ++ number ∷ [])) others between)
          (next_lines text number l.0 some l.1)
          (sorts_known lines l.0 number at index kept others between sorts name i l.2 here))

  -- the first line of a session
  pub before_new : (name : Text) (next : Text → Option ℕ) (new : List (List ℕ)) → HasSession source number name
      → index name ≡ None → new ≡ kept ++ (number ∷ []) ∷ []
      → ((q : Text) → next q ≡ (if bytes_eq name q then Some (length kept) else index q))
      → SortsBefore source number index kept others between → SortsBefore source (number + 1) next new others between
  before_new name next new named here is updates sorts = by source named sorts
    where
      by : (o : Option (List ℕ)) → HasSession o number name → SortsBefore o number index kept others between
          → SortsBefore o (number + 1) next new others between
      by None named sorts = tt
      by (Some text) named sorts =
          let l = found_line number (slice_get (lines_of text) (number - 1)) name named in
          let lines = take (number - 1) (lines_of text) in
          let at = place text number l.0 some l.1 in
          subst (λ (k : List (List ℕ)). Sorts (take (number + 1 - 1) (lines_of text)) next k others between) (sym is)
          (subst (λ (ls : List (List ℕ)). Sorts ls next (kept ++ (number ∷ []) ∷ []) others between)
          (next_lines text number l.0 some l.1)
          (sorts_new lines l.0 number at index kept others between sorts name next l.2 here updates))

-- line 1 says the keys between the regions: it is no session's, and no seed
opened_none : (number : ℕ) (line : List ℕ) (d : Data) → data_said number line ≡ Ok d → opens number d ≡ true
    → (session_of number line ≡ None) × (is_seed number line ≡ false)
opened_none number line d said opened =
    let none : step_of number line ≡ None =
    ap (step_for number) said ∙ ap (λ (b : Bool). if b then None else step_in Run d) opened in (
      ap (option_and_then name_in) none,
      ap (λ (s : Option (Step Text)). option_map_or (λ step. not (is_some (name_in step))) s false) none,
    )

pub before_open : (source : Option (List ℕ)) (number : ℕ) → 0 < number → (index : Text → Option ℕ)
    (kept : List (List ℕ)) (others : List ℕ) (between later : List Key) (line : List ℕ) (d : Data)
    → HasLine source number line → data_said number line ≡ Ok d → opens number d ≡ true
    → later ≡ bounds_by (bounds_in d) → SortsBefore source number index kept others between
    → SortsBefore source (number + 1) index kept others later
before_open source number some index kept others between later line d has said opened is sorts =
    let none = opened_none number line d said opened in
    let same : others ≡ others ++ (if is_seed number line then number ∷ [] else []) =
    sym (ap (λ (b : Bool). others ++ (if b then number ∷ [] else [])) none.1 ∙ append-nil others) in
    before_none source number some index kept others between line others later has none.0 same
    (λ lines at was. is ∙ bounds_open lines line number d at said opened) sorts

-- the text ends here
pub before_whole : (source left : Option (List ℕ)) (number : ℕ) (index : Text → Option ℕ) (kept : List (List ℕ))
    (others : List ℕ) (between : List Key) → Stands source left number → IfSome left (λ bytes. bytes ≡ [])
    → SortsBefore source number index kept others between → KeepsText source kept others between
before_whole None left number index kept others between stands ends sorts = tt
before_whole (Some text) left number index kept others between stands ends sorts =
    let rest : stands.rest ≡ [] = subst (λ (o : Option (List ℕ)). IfSome o (λ bytes. bytes ≡ [])) stands.is ends in
    let all : lines_of text ≡ stands.before ++ [] =
    stands.split ∙ ap (λ (l : List ℕ). stands.before ++ lines_of l) rest in
    let enough : length (lines_of text) ≤ number - 1 =
    omega (arith, stands.numbered, ap length all, length-append stands.before []) in
    let same : take (number - 1) (lines_of text) ≡ lines_of text = take_all (number - 1) (lines_of text) enough in
    record {
      sessions = sorts.sessions ∙ ap sessions_of same;
      seeds = sorts.seeds ∙ ap seeds_of same;
      bounds = sorts.bounds ∙ ap bounds_of same;
    }

-- ---- what the code keeps

-- a line is added to the list at a place
pub added_at : {V A : Type 0} (items : V → List A) (number : A → ℕ) (lists : List V) (i : ℕ) (old new : V) (x : A)
    → i < length lists → old ≡ get_or lists i old → items new ≡ items old ++ x ∷ []
    → map (λ v. map number (items v)) (set lists i new)
    ≡ set (map (λ v. map number (items v)) lists) i
    (get_or (map (λ v. map number (items v)) lists) i [] ++ number x ∷ [])
added_at items number lists i old new x within at is =
    map-set (λ v. map number (items v)) lists i new
    ∙ ap (set (map (λ v. map number (items v)) lists) i)
    (ap (map number) is ∙ map-append number (items old) (x ∷ [])
    ∙ ap (λ (l : List ℕ). l ++ number x ∷ [])
    (ap (λ v. map number (items v)) at ∙ sym (get_or-map (λ v. map number (items v)) lists i old [] within)))

-- a seed is added
pub seed_added : {V : Type 0} (number : V → ℕ) (xs ys : List V) (x : V) (n : ℕ) (b : Bool) → ys ≡ xs ++ x ∷ []
    → number x ≡ n → b ≡ true → map number ys ≡ map number xs ++ (if b then n ∷ [] else [])
seed_added number xs ys x n b is same passes =
    ap (map number) is ∙ map-append number xs (x ∷ []) ∙ ap (λ (m : ℕ). map number xs ++ m ∷ []) same
    ∙ ap (λ (c : Bool). map number xs ++ (if c then n ∷ [] else [])) (sym passes)

-- the line of a step that is no session's
pub seed_by : (number : ℕ) (line : List ℕ) (step : Step Text) → step_of number line ≡ Some step → name_in step ≡ None
    → (session_of number line ≡ None) × (is_seed number line ≡ true)
seed_by number line step said none = (
  ap (option_and_then name_in) said ∙ none,
  ap (λ (s : Option (Step Text)). option_map_or (λ t. not (is_some (name_in t))) s false) said
      ∙ ap (λ (o : Option Text). not (is_some o)) none,
)
