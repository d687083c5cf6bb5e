-- Growing, step by step: what the lent memory holds once a leaf is put, or the left part, the cut, the node and the right part; and that there is room for each.
-- Assumes nothing.
use mathlib.Core.Path.{◌≡◌, refl, sym, ap, ◌∙◌}
use mathlib.Core.Logic.{⊎_elim}
use mathlib.Core.Bool.{Bool, true, false, cond}
use mathlib.Core.List.Memᴰ
use mathlib.Core.List.{List, [], ◌∷◌, ◌++◌, map, map-append}
use mathlib.Core.Option.{Option, none, some}
use Prim.Native.Nat.{ℕ, zero, suc, ◌+◌, ◌-◌, ◌*◌, ◌<◌, ◌≤◌}
use native.Mathlib.Numerals.{add-one}
use native.Mathlib.Omega.{arith}
use lib.Ieee.{Float, lt}
use lib.ListN.{length, set, length-append, length-set, length-map}
use lib.Seq.{sets, set_comm, length-sets}
use Rattle.scope.specs.Grid.{Record}
use Rattle.scope.specs.Layers.{one}
use Rattle.scope.specs.Tree.{Run, direct, choice, Verdict, uncut, cut, judged, verdict, Tree, leaf, node, Grown, parted, grow, nodes, node_count, sheet, cuts}
use Rattle.stored.specs.Flat.{Put}
use Rattle.rows.proofs.Stored.{sets_append}
use Rattle.stored.proofs.Flat.{put_more, put_long, put_read}
use Rattle.node.specs.declared.Node.{Node as NodeStruct}
use Rattle.optimizer.specs.declared.optimizer_result.GainRecord.{GainRecord}
use Rattle.optimizer.specs.Records.{to_record, from_record}
use Rattle.optimizer.proofs.Origins.{to_from}
use Rattle.binary_segmentation.specs.declared.tree.Counts.{Counts}
use Rattle.binary_segmentation.specs.declared.tree.Judged.TheVariants.{Uncut, Cut}
use Rattle.node.specs.Nodes.{to_node, leaf_of, cut_of}
use Rattle.binary_segmentation.specs.Growth.{Lent, stored, judged_of, behind, behind_cut, Judging, Written, Growing, Sound, Fits}
use Rattle.demand.proofs.Records.{Found, direct_found, one_found}
use Rattle.demand.proofs.Inside.{inside_are}
use Rattle.scope.proofs.Candidates.{one_at_most}
use Rattle.scope.proofs.Greatest.{first_one}
use Rattle.scope.proofs.Never.{never}
use Rattle.scope.proofs.Stored.{one_few}
use Rattle.demand.proofs.Choice.{choice_of}
use Rattle.demand.proofs.Sheet.{sheet_node}
use Rattle.demand.proofs.Room.{count_nodes}

-- ---- what cuts a segment lies m or more inside it
module _ (q : Run) where
  cut_chosen : (rs : List Record) (start stop : ℕ) (c : Record) → verdict q rs start stop ≡ cut c → (choice q rs start stop ≡ some c) × (lt q.threshold c.gain ≡ true)
  unfolding verdict
  cut_chosen rs start stop c h = go (choice q rs start stop) h
    where
      test : (r : Record) (b : Bool) → lt q.threshold r.gain ≡ b → cond b (cut r) (uncut (some r)) ≡ cut c → (some r ≡ some c) × (lt q.threshold c.gain ≡ true)
      test r true t e = let w : r ≡ c = cc in (ap some w, rw w at t)
      test r false t e = never (cc)

      go : (o : Option Record) → judged q.threshold o ≡ cut c → (o ≡ some c) × (lt q.threshold c.gain ≡ true)
      go none e = never (cc)
      go (some r) e = test r (lt q.threshold r.gain) refl e

  pub found_sound : (start stop : ℕ) (r : Record) → Found q start stop r → (t : Float) → lt t r.gain ≡ true → (r.start + q.shortest.m ≤ r.split) × (r.split + q.shortest.m ≤ r.stop)
  found_sound start stop r f t k = let w = f.row t k in (omega (arith, f.start_is, w.low), omega (arith, f.stop_is, w.high, one_at_most q.shortest))

  pub cut_within : (rs : List Record) (start stop : ℕ) (c : Record) → Sound q.shortest rs → verdict q rs start stop ≡ cut c → (start + q.shortest.m ≤ c.split) × (c.split + q.shortest.m ≤ stop)
  cut_within rs start stop c sound h =
      let (e, t) = cut_chosen rs start stop c h in
      let (d, f, g) = choice_of q rs start stop c e in
      ⊎_elim
      (λ (w : c ≡ d). let k = direct_found q start stop d f in let z = found_sound start stop d k q.threshold (rw w at t) in (rw w (omega (arith, k.start_is)), rw w (omega (arith, k.stop_is))))
      (λ i. let (a, b, j) = inside_are start stop rs c i in let z = sound c j q.threshold t in (omega arith, omega arith))
      (Memᴰ.cases_cons (first_one g))

  -- ---- records are sound
  sound_append : (rs more : List Record) → Sound q.shortest rs → Sound q.shortest more → Sound q.shortest (rs ++ more)
  sound_append rs more h k r i = ⊎_elim (h r) (k r) (Memᴰ.append_cases rs i)

  pub one_sound : (start stop : ℕ) → Sound q.shortest (one (direct q start stop))
  one_sound start stop r i = found_sound start stop r (direct_found q start stop r (one_found (direct q start stop) r i))

  -- what is made: sound, and at most a record for each node
  record Modest (g : Grown) : Type 0 where
    sound : Sound q.shortest g.made
    few : length g.made ≤ node_count g.tree

  modest_parts : (start stop : ℕ) (v : Verdict) (L : ℕ → Grown) (R : ℕ → List Record → Grown) → ((c : ℕ) → Modest (L c)) → ((c : ℕ) (more : List Record) → Modest (R c more)) → Modest (parted start stop (one (direct q start stop)) v L R)
  unfolding node_count
  modest_parts start stop (uncut o) L R l r = record { sound = one_sound start stop; few = one_few (direct q start stop) }
  modest_parts start stop (cut c) L R l r =
      let x = l c.split in
      let y = r c.split (L c.split).made in
      record {
        sound = sound_append (one (direct q start stop)) _ (one_sound start stop) (sound_append (L c.split).made _ x.sound y.sound);
        few = simp length-append (omega (arith, one_few (direct q start stop), x.few, y.few));
      }

  modest : (k : ℕ) (rs : List Record) (start stop : ℕ) → Modest (grow q k rs start stop)
  unfolding grow node_count
  modest zero rs start stop = record { sound = λ r i. absurd (Memᴰ.not-nil i); few = omega arith }
  modest (suc k) rs start stop =
      let d = one (direct q start stop) in
      modest_parts start stop (verdict q rs start stop) _ _ (λ c. modest k (rs ++ d) start c) (λ c more. modest k ((rs ++ d) ++ more) c stop)

pub made_few : (q : Run) (k : ℕ) (rs : List Record) (start stop : ℕ) → length (grow q k rs start stop).made ≤ node_count (grow q k rs start stop).tree
made_few q k rs start stop = (modest q k rs start stop).few

-- ---- runs of stores
module _ {A : Type 0} where
  -- a store below a run of stores goes before it
  sets_set : (l : List A) (q : ℕ) (xs : List A) (p : ℕ) (x : A) → p < q → set (sets l q xs) p x ≡ sets (set l p x) q xs
  sets_set l q [] p x h = refl
  sets_set l q (y ∷ ys) p x h = sets_set (set l q y) (suc q) ys p x (omega arith) ∙ rw (set_comm l q p y x (λ e. omega arith))

  -- the left part's run L behind the place p, then x at p, and the right part's R behind the left's
  around : (l : List A) (p : ℕ) (x : A) (L R : List A) → sets (set (sets l (p + 1) L) p x) (p + 1 + length L) R ≡ sets l p (x ∷ (L ++ R))
  around l p x L R = rw (sets_set l (p + 1) L p x (omega arith), ← sets_append (set l p x) (p + 1) L R, add-one)

  -- the left part's run L from p on, then x, and then the right part's R
  between : (l : List A) (p : ℕ) (L : List A) (x : A) (R : List A) → sets (set (sets l p L) (p + length L) x) (p + length L + 1) R ≡ sets l p (L ++ (x ∷ R))
  between l p L x R = rw (sets_append l p L (x ∷ R), add-one)

nodes_some : (t : Tree) → 1 ≤ node_count t
unfolding node_count
nodes_some (leaf start stop o) = omega arith
nodes_some (node start stop c l r) = omega arith

pub nodes_long : (p : ℕ) (t : Tree) → length (map to_node (nodes p t)) ≡ node_count t
nodes_long p t = length-map (nodes p t) to_node ∙ sym (count_nodes p t)

-- a node at p and its parts' nodes behind it; a cut between its parts' cuts
nodes_joined : (p : ℕ) (t u : Tree) (x : NodeStruct) (w : List NodeStruct) {w₁ w₃ : List NodeStruct} {n : ℕ} → n ≡ p + 1 + node_count t → w₁ ≡ sets w (p + 1) (map to_node (nodes (p + 1) t)) → w₃ ≡ sets (set w₁ p x) n (map to_node (nodes n u))
    → w₃ ≡ sets w p (x ∷ (map to_node (nodes (p + 1) t) ++ map to_node (nodes (p + 1 + node_count t) u)))
nodes_joined p t u x w e f g =
    let N = map to_node (nodes (p + 1) t) in
    rw (g, f, e) (ap (λ (z : ℕ). sets (set (sets w (p + 1) N) p x) (p + 1 + z) (map to_node (nodes (p + 1 + node_count t) u))) (sym (nodes_long (p + 1) t)) ∙ around w p x N _)

cuts_joined : (p : ℕ) (L R : List ℕ) (x : ℕ) (w : List ℕ) {w₁ w₃ : List ℕ} {n : ℕ} → n ≡ p + length L → w₁ ≡ sets w p L → w₃ ≡ sets (set w₁ n x) (n + 1) R → w₃ ≡ sets w p (L ++ (x ∷ R))
cuts_joined p L R x w e f g = rw (g, f, e) (between w p L x R)

-- the lengths stay
pub record Long (l l' : Lent) : Type 0 where
  pub rows : length l'.rows ≡ length l.rows
  pub gains : length l'.gains ≡ length l.gains
  pub nodes : length l'.nodes ≡ length l.nodes
  pub cuts : length l'.cuts ≡ length l.cuts

written_long : {g : Grown} {at next : Counts} {l l' : Lent} → Written g at l l' next → Long l l'
written_long w = record { rows = (put_long w.records).0; gains = (put_long w.records).1; nodes = ap length w.nodes ∙ simp length-sets; cuts = ap length w.cuts ∙ simp length-sets }

-- ---- what the code's verdict says
of_uncut : (start stop : ℕ) (n : Counts) (v : Verdict) (d : NodeStruct) (next : Counts) → Uncut d next ≡ judged_of start stop n v → (o : Option Record) × (v ≡ uncut o) × (d ≡ to_node (leaf_of start stop o)) × (next ≡ n)
of_uncut start stop n (uncut o) d next h = (o, refl, (cc), (cc))
of_uncut start stop n (cut c) d next h = never (cc)

of_cut : (start stop : ℕ) (n : Counts) (v : Verdict) (c : GainRecord) (next : Counts) → Cut c next ≡ judged_of start stop n v → (v ≡ cut (to_record c)) × (next ≡ n)
of_cut start stop n (uncut o) c next h = never (cc)
of_cut start stop n (cut r) c next h = let w : c ≡ from_record r = cc in (ap cut (sym (to_from r)) ∙ ap (λ (x : GainRecord). cut (to_record x)) (sym w), (cc))

module _ (q : Run) (start stop : ℕ) (at : Counts) (l : Lent) (fits : Fits q start stop at l) where
  abbrev rs : List Record
  rs = stored l at.records

  abbrev d : List Record
  d = one (direct q start stop)

  -- there is room for a node and a record
  pub room_here : (5 * at.records + 5 ≤ length l.rows) × (at.records < length l.gains) × (at.nodes < length l.nodes)
  room_here =
      let some = nodes_some (grow q fits.fuel rs start stop).tree in
      (omega (arith, fits.room_rows), omega (arith, fits.room_gains), omega (arith, fits.room_nodes))

  module _ {rows' : List ℕ} {gains' : List Float} where
    -- a leaf is put
    leaf_written : (x : NodeStruct) (next : Counts) → Put d at.records l.rows l.gains rows' gains' (at.records + length d) → (o : Option Record) → verdict q rs start stop ≡ uncut o → x ≡ to_node (leaf_of start stop o)
        → next ≡ behind at (length d) → (k : ℕ) → stop - start ≤ k → Written (grow q k rs start stop) at l (record { rows = rows'; gains = gains'; nodes = set l.nodes at.nodes x; cuts = l.cuts }) next
    unfolding grow nodes node_count sheet cuts
    leaf_written x next put o v e n zero le = absurd (omega (arith, fits.nonempty))
    leaf_written x next put o v e n (suc k) le = rw (v, e, n) (record { records = put; nodes = refl; cuts = refl; next_node = refl; next_cut = omega arith })

    pub leaf_grown : (x : NodeStruct) (next : Counts) → Judging q start stop at l.rows l.gains rows' gains' (Uncut x next)
        → Growing q start stop at l (record { rows = rows'; gains = gains'; nodes = set l.nodes at.nodes x; cuts = l.cuts }) next
    leaf_grown x next j = let (o, v, e, n) = of_uncut start stop _ (verdict q rs start stop) x next j.is in record { by = leaf_written x next j.put o v e n }

    -- ---- a cut: the left part is grown from the counts `first` on
    module _ (c : GainRecord) (first : Counts) (j : Judging q start stop at l.rows l.gains rows' gains' (Cut c first)) where
      abbrev split : ℕ
      split = c.best_split.0

      abbrev l₁ : Lent
      l₁ = record { rows = rows'; gains = gains'; nodes = l.nodes; cuts = l.cuts }

      verdict_is : verdict q rs start stop ≡ cut (to_record c)
      verdict_is = (of_cut start stop _ (verdict q rs start stop) c first j.is).0

      first_is : first ≡ behind at (length d)
      first_is = (of_cut start stop _ (verdict q rs start stop) c first j.is).1

      pub split_within : (start < split) × (split < stop)
      split_within = let z = cut_within q rs start stop (to_record c) fits.sound verdict_is in let m = fits.least in (omega arith, omega arith)

      -- the parts, at the fuel k
      abbrev L : ℕ → Grown
      L k = grow q k (rs ++ d) start split

      abbrev R : ℕ → Grown
      R k = grow q k ((rs ++ d) ++ (L k).made) split stop

      cut_of_lem : (k : ℕ) → grow q (suc k) rs start stop ≡ record { tree = node start stop (to_record c) (L k).tree (R k).tree; made = d ++ ((L k).made ++ (R k).made) }
      unfolding grow
      cut_of_lem k = rw verdict_is

      -- the room that there is, at the fuel of the parts
      record Opened : Type 0 where
        k : ℕ
        enough : stop - start ≤ suc k
        rows_fit : 5 * (at.records + suc (node_count (L k).tree + node_count (R k).tree)) ≤ length l.rows
        gains_fit : at.records + suc (node_count (L k).tree + node_count (R k).tree) ≤ length l.gains
        nodes_fit : at.nodes + suc (node_count (L k).tree + node_count (R k).tree) ≤ length l.nodes
        cuts_fit : at.cuts + (length (sheet (L k).tree) + suc (length (sheet (R k).tree))) ≤ length l.cuts

      open_at : (k : ℕ) → stop - start ≤ k → 5 * (at.records + node_count (grow q k rs start stop).tree) ≤ length l.rows → at.records + node_count (grow q k rs start stop).tree ≤ length l.gains
          → at.nodes + node_count (grow q k rs start stop).tree ≤ length l.nodes → at.cuts + length (sheet (grow q k rs start stop).tree) ≤ length l.cuts → Opened
      unfolding node_count
      open_at zero le a b c' e = absurd (omega (arith, fits.nonempty))
      open_at (suc k) le a b c' e =
          let sheets = ap length (sheet_node start stop (to_record c) (L k).tree (R k).tree) ∙ length-append (sheet (L k).tree) (split ∷ sheet (R k).tree) in
          record { k = k; enough = le; rows_fit = rw (cut_of_lem k) at a; gains_fit = rw (cut_of_lem k) at b; nodes_fit = rw (cut_of_lem k) at c'; cuts_fit = omega (arith, rw (cut_of_lem k) at e, sheets) }

      opened : Opened
      opened = open_at fits.fuel fits.enough fits.room_rows fits.room_gains fits.room_nodes fits.room_cuts

      rows_long : length rows' ≡ length l.rows
      rows_long = (put_long j.put).0

      gains_long : length gains' ≡ length l.gains
      gains_long = (put_long j.put).1

      -- the records so far, once the segment's own is appended
      stored_left : stored l₁ first.records ≡ rs ++ d
      stored_left = rw first_is (put_read (omega (arith, room_here.0, one_few (direct q start stop))) (omega (arith, room_here.1, one_few (direct q start stop))) j.put)

      pub fits_left : Fits q start split first l₁
      fits_left =
          let o = opened in
          let few = one_few (direct q start stop) in
          let m = modest q o.k (rs ++ d) start split in
          let s = split_within in
          rw first_is
          (record {
            least = fits.least;
            nonempty = s.0;
            sound = rw (rw first_is at stored_left) (sound_append q rs d fits.sound (one_sound q start stop));
            fuel = o.k;
            enough = omega (arith, o.enough);
            room_rows = rw (rw first_is at stored_left) (omega (arith, o.rows_fit, rows_long));
            room_gains = rw (rw first_is at stored_left) (omega (arith, o.gains_fit, gains_long));
            room_nodes = rw (rw first_is at stored_left) (omega (arith, o.nodes_fit));
            room_cuts = rw (rw first_is at stored_left) (omega (arith, o.cuts_fit));
          })

      -- ---- and once the left part is grown to l₂, with the counts n₂: the cut and the node are put, and the right part is grown
      module _ (l₂ : Lent) (n₂ : Counts) (left : Growing q start split first l₁ l₂ n₂) where
        left_by : (k : ℕ) → split - start ≤ k → Written (L k) (behind at (length d)) l₁ l₂ n₂
        left_by k le = rw first_is at (rw stored_left at (left.by k le))

        long : Long l₁ l₂
        long = written_long (left_by (split - start) (omega arith))

        -- the records so far
        stored_right : (k : ℕ) → split - start ≤ k → 5 * n₂.records ≤ length l.rows → n₂.records ≤ length l.gains → stored l₂ n₂.records ≡ (rs ++ d) ++ (L k).made
        stored_right k le h g = put_read (rw rows_long h) (rw gains_long g) (left_by k le).records ∙ ap (λ (z : List Record). z ++ (L k).made) (rw first_is at stored_left)

        records_fit : (5 * n₂.records ≤ length l.rows) × (n₂.records ≤ length l.gains)
        records_fit =
            let o = opened in
            let m = modest q o.k (rs ++ d) start split in
            let w = left_by o.k (omega (arith, o.enough, split_within)) in
            (omega (arith, o.rows_fit, m.few, w.records.told, one_few (direct q start stop)), omega (arith, o.gains_fit, m.few, w.records.told, one_few (direct q start stop)))

        -- there is room for the cut, the node, and the right part
        pub fits_cut : n₂.cuts < length l₂.cuts
        fits_cut = let o = opened in let w = left_by o.k (omega (arith, o.enough, split_within)) in omega (arith, o.cuts_fit, w.next_cut, long.cuts)

        pub fits_node : at.nodes < length l₂.nodes
        fits_node = omega (arith, room_here.2, long.nodes)

        module _ (x : NodeStruct) where
          abbrev l₃ : Lent
          l₃ = record { rows = l₂.rows; gains = l₂.gains; nodes = set l₂.nodes at.nodes x; cuts = set l₂.cuts n₂.cuts split }

          pub fits_right : Fits q split stop (behind_cut n₂) l₃
          fits_right =
              let o = opened in
              let le : split - start ≤ o.k = omega (arith, o.enough, split_within) in
              let m = modest q o.k (rs ++ d) start split in
              let w = left_by o.k le in
              let e = stored_right o.k le records_fit.0 records_fit.1 in
              record {
                least = fits.least;
                nonempty = split_within.1;
                sound = rw e (sound_append q (rs ++ d) _ (sound_append q rs d fits.sound (one_sound q start stop)) m.sound);
                fuel = o.k;
                enough = omega (arith, o.enough, split_within);
                room_rows = rw e (omega (arith, o.rows_fit, m.few, w.records.told, one_few (direct q start stop), rows_long, long.rows));
                room_gains = rw e (omega (arith, o.gains_fit, m.few, w.records.told, one_few (direct q start stop), gains_long, long.gains));
                room_nodes = rw (e, length-set) (omega (arith, o.nodes_fit, w.next_node, long.nodes));
                room_cuts = rw (e, length-set) (omega (arith, o.cuts_fit, w.next_cut, long.cuts));
              }

          module _ (is-node : x ≡ to_node (cut_of start stop (to_record c) first.nodes n₂.nodes)) (l₄ : Lent) (n₃ : Counts) (right : Growing q split stop (behind_cut n₂) l₃ l₄ n₃) where
            cut_written : (k : ℕ) → stop - start ≤ k → Written (grow q k rs start stop) at l l₄ n₃
            unfolding nodes node_count
            cut_written zero le = absurd (omega (arith, fits.nonempty))
            cut_written (suc k) le =
                let w = left_by k (omega (arith, split_within)) in
                let v = rw (stored_right k (omega (arith, split_within)) records_fit.0 records_fit.1) at (right.by k (omega (arith, split_within))) in
                let sheets = sheet_node start stop (to_record c) (L k).tree (R k).tree in
                let here : x ≡ to_node (cut_of start stop (to_record c) (at.nodes + 1) (at.nodes + 1 + node_count (L k).tree)) = is-node ∙ rw (first_is, w.next_node) in
                rw (cut_of_lem k)
                (record {
                  records = put_more j.put (put_more w.records v.records);
                  nodes = rw (map-append to_node, ← here) (nodes_joined at.nodes (L k).tree (R k).tree x l.nodes w.next_node w.nodes v.nodes);
                  cuts = rw sheets (cuts_joined at.cuts (sheet (L k).tree) (sheet (R k).tree) split l.cuts w.next_cut w.cuts v.cuts);
                  next_node = v.next_node ∙ omega (arith, w.next_node);
                  next_cut = v.next_cut ∙ omega (arith, w.next_cut, ap length sheets, length-append (sheet (L k).tree) (split ∷ sheet (R k).tree));
                })

            pub cut_grown : Growing q start stop at l l₄ n₃
            cut_grown = record { by = cut_written }
