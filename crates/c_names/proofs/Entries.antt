-- The last name so called, where one name more is open, or one less.
use Rattle.std.proofs.Common.{◌≡◌, ℕ, ◌<◌, ◌≤◌, Bool, true, false, cond, List, [], ◌∷◌, ◌++◌, length, take, get_or, map, Option, None, Some, refl, ap, ap₂, sym, subst, ◌∙◌, arith, inl, inr, length-append}
use Rattle.std.specs.Prelude.{if◌then◌else◌, bytes_eq, IfSome}
use Rattle.std.specs.Map.{update}
use Rattle.std.specs.Option.{option_map}
use Rattle.std.proofs.Math.ListN.{length-map, get_or-append, get_or-map}
use Rattle.std.proofs.Math.Seq.{take-append_seam, get_or-append_seam}
use Rattle.std.proofs.lemmas.Bool.{cases_lt}
use Rattle.std.proofs.lemmas.List.{map-append, take-append-le}
use Rattle.std.proofs.lemmas.Simd.{map-map}
use Rattle.std.proofs.lemmas.Slice.Eq.{bytes_eq-Decides}
use Rattle.c_tree.specs.Names.{Called, Found, last_named, number_of}
use Rattle.c_tree.proofs.LastNamed.{last_is, number_among, number_pushed, number_within}
use Rattle.c_names.specs.declared.names.Entry.{Entry}
use Rattle.c_names.specs.Entries.{name_of, shown, KeepsHidden}
use Rattle.c_names.specs.Open.{met_as, found_among}

-- ---- what is found

-- the number of the last one so called
last_number : {T : Type 0} → (name : List ℕ) (entries : List (Entry T)) (number : Option ℕ) → number
    ≡ number_of name (map name_of entries)
    → number ≡ option_map (λ f. f.at) (last_named (λ n. n.name) 0 name (map shown entries))
last_number name entries number is =
    is ∙ ap (number_of name) (sym (map-map (λ n. n.name) shown entries))
    ∙ number_among (λ n. n.name) name (map shown entries)

pub none_found : {T : Type 0} → (name : List ℕ) (entries : List (Entry T)) → None ≡ number_of name (map name_of entries)
    → None ≡ found_among name (map shown entries)
none_found {T = T} name entries is =
    by (last_named (λ n. n.name) 0 name (map shown entries)) (last_number name entries None is)
  where
    by : (l : Option (Found (Called T))) → None ≡ option_map (λ f. f.at) l → None ≡ option_map met_as l
    by None h = refl
    by (Some f) h = absurd (cc)

pub some_found : {T : Type 0} → (name : List ℕ) (entries : List (Entry T)) (number : ℕ) (d : Entry T) → Some number
    ≡ number_of name (map name_of entries)
    → ◌≡◌ {A = Option (ℕ × T)} (Some (number, (get_or entries number d).means)) (found_among name (map shown entries))
some_found {T = T} name entries number d is =
    by (last_named (λ n. n.name) 0 name (map shown entries)) (last_number name entries (Some number) is)
    (last_is (λ n. n.name) name (map shown entries) (shown d))
  where
    by : (l : Option (Found (Called T))) → Some number ≡ option_map (λ f. f.at) l
        → IfSome l (λ f. get_or (map shown entries) f.at (shown d) ≡ f.is)
        → ◌≡◌ {A = Option (ℕ × T)} (Some (number, (get_or entries number d).means)) (option_map met_as l)
    by None h there = absurd (cc)
    by (Some f) h there =
        let here : number ≡ f.at = cc in
        let means : (get_or entries number d).means ≡ f.is.means =
        ap (λ n. n.means) (sym (get_or-map shown entries number d)
        ∙ ap (λ k. get_or (map shown entries) k (shown d)) here ∙ there) in
        ap₂ (λ n m. let t : ℕ × T = (n, m) in Some t) here means

-- a number is that of one of them
pub number_of_entry : {T : Type 0} → (name : List ℕ) (entries : List (Entry T))
    → IfSome (number_of name (map name_of entries)) (λ n. n < length entries)
number_of_entry name entries =
    subst (λ (k : ℕ). IfSome (number_of name (map name_of entries)) (λ n. n < k)) (length-map entries name_of)
    (number_within name (map name_of entries))

-- ---- one name more

-- the last entry is the last of its name
last_pushed : {T : Type 0} → (entries : List (Entry T)) (e : Entry T) (name : List ℕ)
    → number_of name (map name_of (entries ++ e ∷ []))
    ≡ (if bytes_eq (name_of e) name then Some (length entries) else number_of name (map name_of entries))
last_pushed entries e name =
    ap (number_of name) (map-append name_of entries (e ∷ []))
    ∙ number_pushed name (map name_of entries) (name_of e)
    ∙ ap (λ (n : ℕ). if bytes_eq (name_of e) name then Some n else number_of name (map name_of entries))
    (length-map entries name_of)

pub kept_pushed : {T : Type 0} → (before after : List ℕ → Option ℕ) (entries more : List (Entry T))
    (e : Entry T) (at : ℕ)
    → ((name : List ℕ) → before name ≡ number_of name (map name_of entries)) → more ≡ entries ++ e ∷ [] → at
    ≡ length entries
    → ((name : List ℕ) → after name ≡ update bytes_eq before (name_of e) (Some at) name)
    → (name : List ℕ) → after name ≡ number_of name (map name_of more)
kept_pushed before after entries more e at kept pushed here updates name =
    updates name
    ∙ ap (λ l. cond (bytes_eq (name_of e) name) (Some at) l) (kept name)
    ∙ ap (λ (n : ℕ). if bytes_eq (name_of e) name then Some n else number_of name (map name_of entries)) here
    ∙ sym (last_pushed entries e name)
    ∙ ap (λ es. number_of name (map name_of es)) (sym pushed)

-- ---- what is hidden

hidden_among : {T : Type 0} → (entries more : List (Entry T)) (k : ℕ) (d : Entry T) → KeepsHidden entries
    → k < length entries
    → (get_or (entries ++ more) k d).hides ≡ number_of (name_of (get_or (entries ++ more) k d)) (map name_of
    (take k (entries ++ more)))
hidden_among entries more k d kept h =
    let within : k ≤ length entries = omega arith in
    rw (get_or-append entries more d k h, take-append-le k entries more within) (kept k d h)

pub hidden_pushed : {T : Type 0} → (entries more : List (Entry T)) (e : Entry T) → KeepsHidden entries
    → e.hides ≡ number_of (name_of e) (map name_of entries) → more ≡ entries ++ e ∷ [] → KeepsHidden more
hidden_pushed entries more e kept hides pushed =
    subst KeepsHidden (sym pushed) (λ k d h. elim (cases_lt k (length entries)) [
      | inl below ↦ hidden_among entries (e ∷ []) k d kept below
      | inr above ↦
          let last : k ≡ length entries = omega (arith, length-append entries (e ∷ [])) in
          rw (last, get_or-append_seam entries e [] d, take-append_seam entries (e ∷ [])) hides
    ])

pub hidden_closed : {T : Type 0} → (entries less : List (Entry T)) (e : Entry T) → KeepsHidden entries → entries ≡ less
    ++ e ∷ [] → KeepsHidden less
hidden_closed entries less e kept closed = λ k d h.
    let within : k ≤ length less = omega arith in
    let longer : k < length (less ++ e ∷ []) = omega (arith, length-append less (e ∷ [])) in
    rw (get_or-append less (e ∷ []) d k h, take-append-le k less (e ∷ []) within) at
    (subst KeepsHidden closed kept k d longer)

-- ---- one name less

hides_last : {T : Type 0} → (entries less : List (Entry T)) (e : Entry T) → KeepsHidden entries → entries
    ≡ less ++ e ∷ []
    → e.hides ≡ number_of (name_of e) (map name_of less)
hides_last entries less e kept closed =
    let longer : length less < length (less ++ e ∷ []) = omega (arith, length-append less (e ∷ [])) in
    rw (get_or-append_seam less e [] e, take-append_seam less (e ∷ [])) at (subst KeepsHidden closed kept
    (length less) e longer)

restored : (same : Bool) (some hides here before : Option ℕ) → (same ≡ true → hides ≡ here) → before
    ≡ (if same then some else here)
    → cond same hides before ≡ here
restored true some hides here before known was = known refl
restored false some hides here before known was = was

pub kept_closed : {T : Type 0} → (before after : List ℕ → Option ℕ) (entries less : List (Entry T)) (e : Entry T)
    → ((name : List ℕ) → before name ≡ number_of name (map name_of entries)) → KeepsHidden entries → entries
    ≡ less ++ e ∷ []
    → ((name : List ℕ) → after name ≡ update bytes_eq before (name_of e) e.hides name)
    → (name : List ℕ) → after name ≡ number_of name (map name_of less)
kept_closed before after entries less e kept hidden closed updates name =
    updates name
    ∙ restored (bytes_eq (name_of e) name) (Some (length less)) e.hides (number_of name
    (map name_of less)) (before name)
    (λ same. hides_last entries less e hidden closed ∙ ap (λ n. number_of n (map name_of less))
    ((bytes_eq-Decides (name_of e) name).0 same))
    (kept name ∙ ap (λ es. number_of name (map name_of es)) closed ∙ last_pushed less e name)

-- the last entry's name has a number
pub last_known : {T : Type 0} → (before : List ℕ → Option ℕ) (entries less : List (Entry T)) (e : Entry T)
    → ((name : List ℕ) → before name ≡ number_of name (map name_of entries)) → entries ≡ less ++ e ∷ []
    → before (name_of e) ≡ Some (length less)
last_known before entries less e kept closed =
    kept (name_of e) ∙ ap (λ es. number_of (name_of e) (map name_of es)) closed ∙ last_pushed less e (name_of e)
    ∙ ap (λ b. if b then Some (length less) else number_of (name_of e) (map name_of less))
    ((bytes_eq-Decides (name_of e) (name_of e)).1 refl)
