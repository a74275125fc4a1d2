-- What a change of a table leaves. Assumes nothing.
use Rattle.std.proofs.Common.{◌≡◌, ℕ, ◌+◌, ◌-◌, ◌<◌, ◌≤◌, List, ◌++◌, length, get_or, take, drop, set, Some, Ok, ap, ◌∙◌, sym, arith, length-set, length-take}
use lib.Seq.{take-set-lt}
use Rattle.std.specs.List.{insert, remove}
use Rattle.std.proofs.lemmas.List.Edits.{length-insert, length-remove}
use Rattle.std.proofs.lemmas.List.{get_or-take, take_at}
use Rattle.std.proofs.lemmas.Option.{slice_get-get_or}
use Rattle.tables.specs.declared.keyed.Table.{Table}
use Rattle.tables.specs.Rules.{Rules, TotalOrder}
use Rattle.tables.specs.Tables.{Inserted, Places, Removed, Replaced, Seeks, Sound, live, memory}
use Rattle.tables.proofs.Memory.{take_live}
use Rattle.tables.proofs.Changes.{inserted_at, inserted_other, inserted_rows, inserted_stands, removed_at, removed_other, removed_rows, rising_inserted, rising_removed, rising_set, set_at, set_other, set_rows}

-- the rows at the front, as many as are live, are the live ones
pub front_live : {R K : Type 0} (t : Table R K) (n : ℕ) → n ≡ length (live t) → take n (memory t) ≡ live t
front_live t n n-is = ap (λ m. take m (memory t)) n-is ∙ take_live t.len (memory t)

-- the live rows, of memory that was written anew at the front
module _ {R K : Type 0} (t : Table R K) (new : List R) (n place : ℕ) (n-is : n ≡ length (live t)) where
  pub front_inserted : (row : R) → place ≤ length (live t) → new ≡ insert (take n (memory t)) place row ++ drop (n + 1) (memory t) → take (n + 1) new ≡ insert (live t) place row
  front_inserted row among is =
      rw (is, front_live t n n-is) (take_at (insert (live t) place row) (drop (n + 1) (memory t)) (n + 1) (omega (arith, n-is, length-insert (live t) place row among)))

  pub front_removed : place < length (live t) → new ≡ remove (take n (memory t)) place ++ drop (n - 1) (memory t) → take (n - 1) new ≡ remove (live t) place
  front_removed among is =
      rw (is, front_live t n n-is) (take_at (remove (live t) place) (drop (n - 1) (memory t)) (n - 1) (omega (arith, n-is, length-remove (live t) place among)))

pub front_set : {R K : Type 0} (t : Table R K) (new : List R) (place : ℕ) (row : R) → place < length (live t) → new ≡ set (memory t) place row → take t.len new ≡ set (live t) place row
front_set t new place row among is = rw is (take-set-lt t.len (memory t) place row (omega (arith, among, length-take t.len (memory t))))

-- what is read in memory at the place of a live row is that row
read_live : {R K : Type 0} (t : Table R K) (place : ℕ) (row : R) → place < length (live t) → row ≡ get_or (memory t) place row → get_or (live t) place row ≡ row
read_live t place row among is = get_or-take t.len (memory t) place row (omega (arith, among, length-take t.len (memory t))) ∙ sym is

module _ {R K : Type 0} (rules : Rules R K) (order : TotalOrder rules.less) (t t' : Table R K) (place : ℕ) (sound : Sound rules t) where
  pub sound_inserted : (row : R) → live t' ≡ insert (live t) place row → Places rules t (rules.key row) (Ok place) → length (live t) < rules.most → Sound rules t'
  sound_inserted row rows places room = record {
    rising = rw rows (rising_inserted rules order (live t) row place sound.rising places.1);
    within = rw rows (omega (arith, length-insert (live t) place row places.1.within));
  }

  pub inserted_outcome : (row : R) → live t' ≡ insert (live t) place row → Places rules t (rules.key row) (Ok place) → Inserted rules t row place t'
  inserted_outcome row rows places =
      let b = places.1 in
      record {
        accepted = places.0;
        rows = rows ∙ inserted_rows rules order (live t) row place sound.rising b;
        count = ap length rows ∙ length-insert (live t) place row b.within;
        placed = rows;
        stands = rw rows (inserted_stands rules order (live t) row place sound.rising b);
        looks = record {
          at = rw rows (inserted_at rules order (live t) row place sound.rising b);
          other = λ q ne. rw rows (inserted_other rules order (live t) row place sound.rising b q ne);
        };
      }

  pub sound_removed : live t' ≡ remove (live t) place → place < length (live t) → Sound rules t'
  sound_removed rows among = record {
    rising = rw rows (rising_removed rules order (live t) place sound.rising among);
    within = rw rows (omega (arith, sound.within, length-remove (live t) place among));
  }

  pub removed_outcome : (row : R) → live t' ≡ remove (live t) place → row ≡ get_or (memory t) place row → (k : K) → Seeks rules t k (Ok place) → Removed rules t k row t'
  removed_outcome row rows was k seeks =
      let s = seeks.1 in
      record {
        accepted = seeks.0;
        was = s.looked ∙ slice_get-get_or (live t) place row s.within ∙ ap Some (read_live t place row s.within was);
        rows = rows ∙ removed_rows rules order (live t) k place sound.rising s;
        count = ap (λ l. length l + 1) rows ∙ length-remove (live t) place s.within;
        looks = record {
          at = rw rows (removed_at rules order (live t) k place sound.rising s);
          other = λ q ne. rw rows (removed_other rules order (live t) k place sound.rising s row q ne);
        };
      }

  pub sound_set : (row : R) → live t' ≡ set (live t) place row → Seeks rules t (rules.key row) (Ok place) → Sound rules t'
  sound_set row rows seeks = record {
    rising = rw rows (rising_set rules order (live t) row place sound.rising seeks.1);
    within = rw (rows, length-set (live t) place row) sound.within;
  }

  pub replaced_outcome : (row old : R) → live t' ≡ set (live t) place row → old ≡ get_or (memory t) place old → Seeks rules t (rules.key row) (Ok place) → Replaced rules t row old t'
  replaced_outcome row old rows was seeks =
      let s = seeks.1 in
      record {
        accepted = seeks.0;
        was = s.looked ∙ slice_get-get_or (live t) place old s.within ∙ ap Some (read_live t place old s.within was);
        rows = rows ∙ set_rows rules order (live t) row place sound.rising s;
        count = ap length rows ∙ length-set (live t) place row;
        looks = record {
          at = rw rows (set_at rules order (live t) row place sound.rising s);
          other = λ q ne. rw rows (set_other rules order (live t) row place sound.rising s q ne);
        };
      }
