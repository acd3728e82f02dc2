-- How entries of pages and words are joined.
use Rattle.std.proofs.Common.{arith, ◌≡◌, ℕ, List, Option, Some}
use Rattle.hp_plain.specs.Image.{Pictured}
use Rattle.hp_trace_json.specs.declared.words.WordNow.{WordNow}
use Rattle.hp_trace_json.specs.Changes.{NoOwnersPages, NoOwnersWords, NoWords, OwnersPagesTold, OwnersWordsTold, PagesWordsTold, SetsFrame, SetsWord, is_page, is_word}
use Rattle.hp_trace_json.specs.Parts.{page_in, word_of, words_in}
use Rattle.hp_trace_json.specs.Told.{IsSilent, Tells}
use Rattle.hp_trace_json.proofs.Tellings.{Joins, below_joins, values_join}

pub pages_join : (was : Option Pictured) (now : Pictured) (owner : ℕ)
    → Joins (OwnersPagesTold was now owner now.layout.pages) (NoOwnersPages owner)
pages_join was now owner =
    below_joins
    (λ page. Tells (is_page owner page) SetsFrame (page_in was owner page) (page_in (Some now) owner page))
    (λ page. IsSilent (is_page owner page))
    (values_join (is_page owner) SetsFrame (page_in was owner) (page_in (Some now) owner)) now.layout.pages

pub owner_joins : (was : Option Pictured) (now : Pictured) (owner : ℕ)
    → (page : ℕ) → Joins (PagesWordsTold owner page (words_in was owner page) (words_in (Some now) owner page)
    now.layout.words) (NoWords owner page)
owner_joins was now owner page =
    let old = words_in was owner page in
    let new = words_in (Some now) owner page in
    below_joins (λ index. Tells (is_word owner page index) SetsWord (word_of old index) (word_of new index))
    (λ index. IsSilent (is_word owner page index))
    (values_join (is_word owner page) SetsWord (word_of old) (word_of new)) now.layout.words

pub words_join : (was : Option Pictured) (now : Pictured) (owner : ℕ)
    → Joins (OwnersWordsTold was now owner now.layout.pages) (NoOwnersWords owner)
words_join was now owner =
    below_joins
    (λ page. PagesWordsTold owner page (words_in was owner page) (words_in (Some now) owner page)
    now.layout.words)
    (NoWords owner) (owner_joins was now owner) now.layout.pages

-- what is told of a page's words, by equal words and an equal count
pub words_at_as : (owner page : ℕ) (was now other next : List ℕ) (count most : ℕ) (told : List WordNow)
    → was ≡ other → now ≡ next → count ≡ most → PagesWordsTold owner page was now count told
    → PagesWordsTold owner page other next most told
words_at_as owner page was now other next count most told first second third given = grind arith
