-- States that agree outside of what may have changed: the laws of two maps that agree, at the three maps of a state.
use Rattle.plain_data.proofs.Agreements as maps
use Rattle.meta_state.specs.declared.cluster_state.ClusterState.{ClusterState}
use Rattle.meta_state.specs.declared.touches.Touched.{Touched}
use Rattle.meta_state.specs.Touches.{AgreeOutside, Covers, touched_by_both}

module _ (touched : Touched) where
  pub state_agrees_with_itself : (a : ClusterState) → AgreeOutside touched a a
  state_agrees_with_itself a = record {
    indices = maps.agree_with_itself touched.indices a.metadata.indices;
    settings = maps.agree_with_itself touched.settings a.metadata.settings;
    nodes = maps.agree_with_itself touched.nodes a.nodes;
  }

  pub states_agree_flipped : (a b : ClusterState) → AgreeOutside touched a b → AgreeOutside touched b a
  states_agree_flipped a b p = record {
    indices = maps.agree_flipped touched.indices a.metadata.indices b.metadata.indices p.indices;
    settings = maps.agree_flipped touched.settings a.metadata.settings b.metadata.settings p.settings;
    nodes = maps.agree_flipped touched.nodes a.nodes b.nodes p.nodes;
  }

  pub states_agree_through : (a b c : ClusterState) → AgreeOutside touched a b → AgreeOutside touched b c → AgreeOutside touched a c
  states_agree_through a b c p q = record {
    indices = maps.agree_through touched.indices a.metadata.indices b.metadata.indices c.metadata.indices p.indices q.indices;
    settings = maps.agree_through touched.settings a.metadata.settings b.metadata.settings c.metadata.settings p.settings q.settings;
    nodes = maps.agree_through touched.nodes a.nodes b.nodes c.nodes p.nodes q.nodes;
  }

  -- outside of more names
  pub states_agree_outside_more : (more : Touched) (a b : ClusterState) → Covers more touched → AgreeOutside touched a b → AgreeOutside more a b
  states_agree_outside_more more a b covers p = record {
    indices = maps.agree_outside_more touched.indices more.indices a.metadata.indices b.metadata.indices covers.indices p.indices;
    settings = maps.agree_outside_more touched.settings more.settings a.metadata.settings b.metadata.settings covers.settings p.settings;
    nodes = maps.agree_outside_more touched.nodes more.nodes a.nodes b.nodes covers.nodes p.nodes;
  }

  -- outside of what may have changed first, and then of what may have changed after that
  pub states_agree_outside_both : (after : Touched) (a b c : ClusterState) → AgreeOutside touched a b → AgreeOutside after b c → AgreeOutside (touched_by_both touched after) a c
  states_agree_outside_both after a b c p q = record {
    indices = maps.agree_outside_both touched.indices after.indices a.metadata.indices b.metadata.indices c.metadata.indices p.indices q.indices;
    settings = maps.agree_outside_both touched.settings after.settings a.metadata.settings b.metadata.settings c.metadata.settings p.settings q.settings;
    nodes = maps.agree_outside_both touched.nodes after.nodes a.nodes b.nodes c.nodes p.nodes q.nodes;
  }
